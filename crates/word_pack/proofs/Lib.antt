mod BitLemmas
pub mod OneToOne
