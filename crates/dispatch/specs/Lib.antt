pub mod Boxes
pub mod BoxLaws
pub mod Layers
pub mod Predictors
pub mod Stacks
pub mod Views
