pub mod NumbersLaws
pub mod FollowLaws
pub mod SlotsLaws
pub mod PairLaws
