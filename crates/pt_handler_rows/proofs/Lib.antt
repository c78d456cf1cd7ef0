pub mod HandlerLemmas
