pub mod Behind
pub mod call_forms
