-- Where the faults of rules stand: at spans of the trees that are judged. None but those of evaluations have the code T04.
pub mod EachSpan
pub mod Inductions
pub mod SpanLayers
pub mod OtherCodes
pub mod Standing
pub mod ExprRows
pub mod ExprSpans
pub mod StmtRows
pub mod TargetSpans
pub mod StmtSpans
pub mod DeclSpans
pub mod ProgramSpans
pub mod ValueEnds
pub mod KnownSpans
pub mod FileSpans
