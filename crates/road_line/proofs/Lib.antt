pub mod StartLaws
pub mod EndingLaws
pub mod NumbersLaws
pub mod NumberLaws
pub mod ScanLaws
pub mod LineCases
pub mod NodeLaws
pub mod SmallLaws
