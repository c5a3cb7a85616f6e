-- Law 2: right tests exist and answer alike, so files have one answer; and declarations are judged in turns, each behind all that it uses.
pub mod SomeTests
pub mod Distinct
pub mod Settling
pub mod Reaching
pub mod Turning
pub mod Named
pub mod EachName
pub mod AfterTurns
pub mod SharedNames
