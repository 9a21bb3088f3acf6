pub mod lemmas
pub mod JournalLemmas
pub mod OneMore
pub mod EventLemmas
pub mod Ends
pub mod Copies
