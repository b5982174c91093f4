pub mod GoodLemmas
pub mod ReachLemmas
pub mod FrontierLemmas
pub mod TryLemmas
pub mod AfterLemmas
pub mod NeedLemmas
pub mod ThinningLaws
