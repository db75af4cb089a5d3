pub mod Classification
pub mod GeneratorProduct
pub mod GeneratorStep
pub mod GeneratorSteps
pub mod Generators
