-- The steps, each of which keeps a store sound and changes no answer.
--   StepFacts     what the name of a step tells
--   SoundMemory   put and delete
--   Flush, Move   whole tables change their level
--   Ranges        what each table below gains by a link
--   Apart         links that name one place share no key
--   LinkApart     what hangs after a link, old and new
--   LinkReads     what is read below after a link
--   LinkSpans     spans after a link
--   LinkShape     what a link leaves, place by place
--   Link          a link keeps a store sound
--   LinkView      a link changes no answer
--   MergeShape    what a merge leaves, place by place
--   Merge         a merge keeps a store sound
--   MergeView     a merge changes no value
--   Writes        a tidy writes at most nine places, a flush one
pub mod StepFacts
pub mod SoundMemory
pub mod Flush
pub mod Move
pub mod Ranges
pub mod Apart
pub mod LinkApart
pub mod LinkReads
pub mod LinkSpans
pub mod LinkShape
pub mod Link
pub mod LinkView
pub mod MergeShape
pub mod Merge
pub mod MergeView
pub mod Writes
