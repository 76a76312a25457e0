-- An entry's message with the attributes in it, and its text, of which its chunks are read.
use Rattle.std.specs.Prelude.{◌≡◌, ℕ, List, Ok}
use Rattle.proto_wire.specs.Field.{FieldText, fields_of}
use Rattle.entry.specs.AttributesText.{AttributesText}
use Rattle.entry.specs.EntryText.{EntryFieldsText, entry_fields_in}

-- What is known of an entry's text once it is read.
pub record EntryParts : Type 0 where
  pub text : List ℕ
  pub fields : EntryFieldsText
  pub attributes : AttributesText

-- The fields are those of the text.
pub record IsOfText (text : List ℕ) (fields : EntryFieldsText) : Type 0 where
  pub outer : List FieldText
  pub whole : fields_of text ≡ Ok outer
  pub is : fields ≡ entry_fields_in outer
