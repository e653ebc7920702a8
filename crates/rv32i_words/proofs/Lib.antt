pub mod CaseTable
pub mod Powers
pub mod Masks
pub mod Round
pub mod SixFields
