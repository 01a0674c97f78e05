pub mod MirrorFacts
