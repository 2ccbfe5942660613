pub mod WorkLists
pub mod Links
