pub mod Chains
pub mod Each
pub mod Inverse
pub mod Lists
pub mod Marks
pub mod NodeLaws
pub mod ShapeLaws
pub mod TextLaws
