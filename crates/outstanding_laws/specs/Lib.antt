pub mod Outstanding
