-- Law 2: right tests exist and answer alike, so files have one answer; and declarations are judged alike in each order.
pub mod ReadVerdict
pub mod OneVerdict
pub mod WrittenVerdicts
pub mod OneReport
