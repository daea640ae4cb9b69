-- What follows from the definition of a saved book.
--   Forms    what `saved_form` says of the head, and of each card, list and entry
--   Grows    a store over more places than before, the added ones free, is the same store
--   Summed   summaries worked out afresh are those of the store's rows
--   Shown    where the bytes of a field stand, that field is read
--   Fitting  the fields of a sound store fit the bytes that they take
--   Decode   decode after encode: what saving writes shows the store that was saved
--   Encode   encode after decode: the bytes of what is read at a position are what stood there
--   Resaved  bytes that open without a broken rule are just those that saving the opened store writes
--   Opens    of the calls: what was saved opens again, and what opens is what saving writes
--   Words    words below 2^64, as their type has them, show a store that fits
--   Longest  a buffer with room for every saved book of so many places
--   Done     what number 0 says
pub mod Forms
pub mod Grows
pub mod Summed
pub mod Shown
pub mod Fitting
pub mod Decode
pub mod Encode
pub mod Resaved
pub mod Opens
pub mod Words
pub mod Longest
pub mod Done
