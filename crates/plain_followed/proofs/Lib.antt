pub mod FollowedLemmas
pub mod OwnLemmas
