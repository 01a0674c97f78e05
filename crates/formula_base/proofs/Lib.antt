pub mod SpanLaws
pub mod GatherLaws
pub mod ExprLaws
pub mod BlockLaws
pub mod RangeLaws
pub mod Turns
