pub mod Agreeing
pub mod Before
mod Choosing
mod Counting
pub mod Elsewhere
pub mod Example
pub mod Growing
pub mod Lines
pub mod MergedRuns
pub mod NextLine
mod NextLines
pub mod Ordering
mod Owning
pub mod Picked
pub mod Picking
pub mod Posting
pub mod PostsOfNone
pub mod Sendings
pub mod SortedLines
pub mod Splitting
pub mod Stamps
