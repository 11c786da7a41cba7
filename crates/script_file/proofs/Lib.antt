pub mod TextLemmas
pub mod UsualLemmas
