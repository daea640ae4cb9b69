-- Document 01, in its order. What a reader of the store must believe stands here and in the formats of `table`.
--   Lists      small functions on lists
--   Store      links, cards, the store, a new store, spans, what is to be read of a table
--   Rules      a sound store: rules A to G as far as they speak of the store
--   Layout     which word of the book means what
--   Lent       the lent bytes and numbers; the store that they show; numbers 1 and 5, the broken rules and the first of them
--   Request    requests and replies: kinds and results by name, body lengths, bytes
--   Memtable   put and delete
--   Place      the place taken, tables written, flush
--   Read       the read order, look-up, scan, report
--   Probe      which tables a look-up opens, and the request that tells of them (document 02, note 6)
--   Tidy       which step is due: due merge, level, choice, ranges; the step is named here
--   Steps      the named step is done: move, link, merge
--   Serve      serving one request
--   Run        splitting a list, serving it, run, check and make, with numbers 1 to 5, 21 and 22 by name
--   History    histories, the latest-write map, the slice list, where a history starts, and `Demand3`
--   Facts      rising spans, a table to be merged or taken down, the sizes of the lent pieces: what contracts of the code name
--   Examples   P1 to P10, examples of notes 2 and 5, a case for each slip, and the letters of damaged memory
pub mod Lists
pub mod Store
pub mod Rules
pub mod Layout
pub mod Lent
pub mod Request
pub mod Memtable
pub mod Place
pub mod Read
pub mod Probe
pub mod Tidy
pub mod Steps
pub mod Serve
pub mod Run
pub mod History
pub mod Facts
pub mod Examples
