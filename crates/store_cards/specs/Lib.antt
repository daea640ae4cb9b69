-- What a reader of `store_cards` must believe besides the definition of the store: the words of a card that is lent as a struct.
pub mod Card
