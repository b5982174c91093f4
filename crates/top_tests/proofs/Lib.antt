mod FrameLemmas
