pub mod PutsLaws
pub mod ChainLaws
pub mod FarLaws
pub mod OverlapLaws
pub mod StoreLaws
pub mod StandingLaws
pub mod RowLaws
