-- Whether bytes are of the form of a saved book, and where its parts then stand.
use Rattle.std.specs.Prelude.{ℕ, List, cond, Option, Some, None}
use Rattle.saved_book.specs.Form.{places_saved, saved_form, lists_start, memory_start}
use Rattle.saved_form.specs.declared.form.Parts.{Parts}

unfoldable pub form_of : List ℕ → Option Parts
form_of s = cond (saved_form s) (Some (record { places = places_saved s; lists = lists_start s; memory = memory_start s })) None
