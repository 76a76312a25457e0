-- How long the text of a record of new directories is at the most.
use Rattle.std.proofs.Common.{◌≡◌, ℕ, ◌+◌, ◌*◌, ◌≤◌, true, false, cond, eqb, List, [], ◌∷◌, ◌++◌, length, ap, arith, length-append, All}
use Rattle.std.specs.Prelude.{flat_map}
use Rattle.std.proofs.lemmas.List.Elements.{All-head, All-tail}
use Rattle.weed_base.specs.Path.{text_of}
use Rattle.proto_wire.proofs.Varint.{length-varint_text}
use Rattle.proto_wire.specs.Text.{varint_text, tag_text, varint_field, bytes_field, message_field}
use Rattle.name_core.specs.declared.change.Change.{Change}
use Rattle.name_core.specs.declared.change.Change.TheVariants.{Put, Drop}
use Rattle.name_core.specs.declared.change.Record.{Record}
use Rattle.name_core.specs.Plan.{seconds, new_directory, IsNewDirectory, MakesDirectories}
use Rattle.entry.specs.AttributesText.{attributes_text}
use Rattle.entry.specs.EntryWriting.{entry_text}
use Rattle.name_core.specs.RecordText.{directory_of, name_of}
use Rattle.records.specs.RecordText.{notification_text, change_text, record_text}
use Rattle.records.proofs.PathTexts.{HasShortParts, short_parts}

pub length-tag_text : (number kind : ℕ) → length (tag_text number kind) ≤ 10
length-tag_text number kind = length-varint_text (number * 8 + kind)

pub length-varint_field : (number value : ℕ) → length (varint_field number value) ≤ 20
length-varint_field number value =
    elim (eqb value 0) as (λ b. length (cond b [] (tag_text number 0 ++ varint_text value)) ≤ 20) [
      | true ↦ omega arith
      | false ↦ omega (arith, length-append (tag_text number 0) (varint_text value), length-tag_text number 0, length-varint_text value)
    ]

pub length-message_field : (number : ℕ) (bytes : List ℕ) → length (message_field number bytes) ≤ 20 + length bytes
length-message_field number bytes =
    omega (arith, length-append (tag_text number 2 ++ varint_text (length bytes)) bytes, length-append (tag_text number 2) (varint_text (length bytes)), length-tag_text number 2, length-varint_text (length bytes))

pub length-bytes_field : (number : ℕ) (bytes : List ℕ) → length (bytes_field number bytes) ≤ 20 + length bytes
length-bytes_field number bytes =
    elim (eqb (length bytes) 0) as (λ b. length (cond b [] (message_field number bytes)) ≤ 20 + length bytes) [
      | true ↦ omega arith
      | false ↦ length-message_field number bytes
    ]

within : (xs ys : List ℕ) (m n : ℕ) → length xs ≤ m → length ys ≤ n → length (xs ++ ys) ≤ m + n
within xs ys m n front back = omega (arith, length-append xs ys)

length-attributes_text : (moment : ℕ) → length (attributes_text (new_directory moment).attributes) ≤ 180
length-attributes_text moment =
    let second : ℕ = seconds moment in
    within _ (bytes_field 14 []) 160 20
    (within _ (varint_field 10 0) 140 20
    (within _ (bytes_field 7 []) 120 20
    (within _ (varint_field 6 second) 100 20
    (within _ (varint_field 5 0) 80 20
    (within _ (varint_field 4 0) 60 20
    (within _ (varint_field 3 493) 40 20
    (within (varint_field 1 0) (varint_field 2 second) 20 20 (length-varint_field 1 0) (length-varint_field 2 second))
    (length-varint_field 3 493))
    (length-varint_field 4 0))
    (length-varint_field 5 0))
    (length-varint_field 6 second))
    (length-bytes_field 7 []))
    (length-varint_field 10 0))
    (length-bytes_field 14 [])

length-entry_text : (name : List ℕ) (moment : ℕ) → length (entry_text name (new_directory moment)) ≤ 300 + length name
length-entry_text name moment =
    omega (arith, length-append (bytes_field 1 name ++ varint_field 2 1 ++ []) (message_field 4 (attributes_text (new_directory moment).attributes)), length-append (bytes_field 1 name ++ varint_field 2 1) [], length-append (bytes_field 1 name) (varint_field 2 1), length-bytes_field 1 name, length-varint_field 2 1, length-message_field 4 (attributes_text (new_directory moment).attributes), length-attributes_text moment)

-- An event of a new directory
length-event : (time : ℕ) (change : Change) → IsNewDirectory time change → length (message_field 2 (change_text change)) ≤ 10000
length-event time (Put path entry) is =
    let short = is.0.short in
    let parts : HasShortParts path = short_parts path in
    let inner : List ℕ = entry_text (name_of path) (new_directory time) in
    let entry_is : ◌≡◌ {A = List ℕ} (entry_text (name_of path) entry) inner = ap (entry_text (name_of path)) is.2 in
    let notification : length (notification_text (Put path entry)) ≡ length (message_field 2 inner) = ap (λ t. length (message_field 2 t)) entry_is in
    omega (
      arith,
      length-message_field 2 (change_text (Put path entry)),
      length-append (bytes_field 1 (text_of (directory_of path))) (message_field 2 (notification_text (Put path entry))),
      length-bytes_field 1 (text_of (directory_of path)),
      length-message_field 2 (notification_text (Put path entry)),
      length-message_field 2 inner,
      length-entry_text (name_of path) time,
      parts.directory,
      parts.name,
    )
length-event time (Drop path) is = absurd is

length-events : (time : ℕ) (changes : List Change) → All (IsNewDirectory time) changes → length (flat_map (λ change. message_field 2 (change_text change)) changes) ≤ 10000 * length changes
length-events time [] each = omega arith
length-events time (change ∷ changes) each =
    omega (
      arith,
      length-append (message_field 2 (change_text change)) (flat_map (λ c. message_field 2 (change_text c)) changes),
      length-event time change (All-head (IsNewDirectory time) change changes each),
      length-events time changes (All-tail (IsNewDirectory time) change changes each),
    )

length-record : (time : ℕ) (made : Record) → MakesDirectories time made.changes → length (record_text made) ≤ 67108864
length-record time made makes =
    let few = makes.few in
    omega (
      arith,
      length-append (varint_field 1 made.time) (flat_map (λ c. message_field 2 (change_text c)) made.changes),
      length-varint_field 1 made.time,
      length-events time made.changes makes.each,
    )

pub directories_are_short : (made : Record) → MakesDirectories made.time made.changes → length (record_text made) ≤ 67108864
directories_are_short made makes = length-record made.time made makes
