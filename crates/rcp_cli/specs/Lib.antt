pub mod StdFolder
pub mod StdOut
