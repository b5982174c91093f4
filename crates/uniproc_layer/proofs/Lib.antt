mod UniLemmas
