-- What reading an item answers, in the words of its layout.
use Rattle.std.proofs.Common.{◌≡◌, ◌≢◌, ℕ, ◌+◌, ◌^◌, ◌<◌, ◌≤◌, Bool, true, false, cond, List, ◌∷◌, ◌++◌, length, take, drop, Result, Ok, Err, refl, sym, ap, subst, ◌∙◌, arith, inl, inr, ◌⊎◌}
use Rattle.std.specs.Prelude.{IfOk, IsOk, ◌↔◌}
use Rattle.std.specs.Int.{w32, to_be_bytes}
use Rattle.std.proofs.lemmas.Bool.{cases_lt, lt-ltb, le-ltb}
use Rattle.std.proofs.lemmas.List.{take_at, drop_at, take-append-drop, length-append, length-take}
use Rattle.needle.specs.declared.fault.NeedleFault.{NeedleFault}
use Rattle.needle.specs.declared.fault.NeedleFault.TheVariants.{BadVersion, BadPlacement, ReservedSet, Truncated, SizeMismatch, Compressed, Manifest, ChecksumMismatch, Memory}
use Rattle.needle.specs.declared.item.Item.{Item}
use Rattle.needle.specs.declared.item.Item.TheVariants.{Live, Gone}
use Rattle.needle.specs.declared.item.ReadItem.{ReadItem}
use Rattle.needle.specs.declared.version.Version.{Version}
use Rattle.needle.specs.declared.version.Version.TheVariants.{V2, V3}
use Rattle.needle.specs.Answer.{IsItem, IsMoment, BeginsWith, IsRefused}
use Rattle.needle.specs.Crc.{checksum}
use Rattle.needle.specs.Fields.{four_at, eight_at, size_in, counted_in, checksum_in, moment_in, IsWhole}
use Rattle.needle.specs.Item.{flags, unmarked, parts_text, content, body_of, cookie_of, key_of, item_front, padding_len}
use Rattle.needle.specs.Layout.{padded, frame_len}
use Rattle.needle.specs.Reading.{behind, item_at, read_at, Gives}
use Rattle.needle.proofs.Codecs.{IsBytes, IsBytes-take, IsBytes-drop, wide32, wide64}
use Rattle.needle.proofs.ItemsRead.{ItemRefused, IsFound, Outcome, outcome, item_refused, item_again}
use Rattle.needle.proofs.Linear.{checksum-small}
use Rattle.needle.proofs.Places.{front, padded-is, text_peeled, Placed, IsPlaced, placed}

-- ---- the two cases of a length

abbrev pub made : Version → List ℕ → Item → ReadItem
made version text item = record { item = item; taken = padded version (size_in text); moment = moment_in version text }

abbrev pub inner : Version → List ℕ → Result Item NeedleFault
inner version text = item_at (four_at 0 text) (eight_at 4 text) (counted_in text) (checksum_in text)

abbrev pub wrapped : Version → List ℕ → Result Item NeedleFault → Result ReadItem NeedleFault
wrapped version text read = behind read (λ item. Ok (made version text item))

pub read_at-whole : (version : Version) (text : List ℕ) → IsWhole version text → read_at version text ≡ wrapped version text (inner version text)
unfolding read_at
read_at-whole version text whole =
    ap (λ (b : Bool). cond b (Err Truncated) (wrapped version text (inner version text))) (le-ltb (length text) (padded version (size_in text)) whole)

pub read_at-truncated : (version : Version) (text : List ℕ) → length text < padded version (size_in text) → read_at version text ≡ Err Truncated
unfolding read_at
read_at-truncated version text short =
    ap (λ (b : Bool). cond b (Err Truncated) (wrapped version text (inner version text))) (lt-ltb (length text) (padded version (size_in text)) short)

-- ---- what was read

abbrev pub Verdict : Version → List ℕ → Result ReadItem NeedleFault → Type 0
Verdict version text (Ok read) = BeginsWith version text read
Verdict version text (Err fault) = IsRefused version text fault

moment_fits : (version : Version) (text : List ℕ) → IsBytes text → IsMoment version (moment_in version text)
moment_fits V2 text fits = refl
moment_fits V3 text fits = wide64.below _ (IsBytes-take 8 (drop (20 + size_in text) text) (IsBytes-drop (20 + size_in text) text fits))

four_fits : (place : ℕ) (text : List ℕ) → IsBytes text → four_at place text < 2 ^ 32
four_fits place text fits = wide32.below _ (IsBytes-take 4 (drop place text) (IsBytes-drop place text fits))

eight_fits : (place : ℕ) (text : List ℕ) → IsBytes text → eight_at place text < 2 ^ 64
eight_fits place text fits = wide64.below _ (IsBytes-take 8 (drop place text) (IsBytes-drop place text fits))

front-same : (cookie cookie' key key' : ℕ) (bytes bytes' : List ℕ) (sum sum' : ℕ) (version : Version) (moment : ℕ) → cookie ≡ cookie' → key ≡ key' → bytes ≡ bytes' → sum ≡ sum'
    → front cookie key bytes sum version moment ≡ front cookie' key' bytes' sum' version moment
front-same cookie cookie' key key' bytes bytes' sum sum' version moment a b c d = cc

-- a text behind whose front there is room for padding
room : (before tail text : List ℕ) (k taken : ℕ) → text ≡ before ++ tail → taken ≡ length before + k → taken ≤ length text
    → (length (take k tail) ≡ k) × (text ≡ before ++ (take k tail ++ drop k tail))
room before tail text k taken spelled is within =
    let len : length text ≡ length before + length tail = ap length spelled ∙ length-append before tail in
    let fits : k ≤ length tail = omega arith in
    (omega (arith, length-take k tail), spelled ∙ ap (λ (t : List ℕ). before ++ t) (sym (take-append-drop k tail)))

begun : (version : Version) (text tail : List ℕ) (item : Item) → IsItem item → IsBytes text → IsWhole version text
    → text ≡ item_front item version (moment_in version text) ++ tail
    → padded version (size_in text) ≡ length (item_front item version (moment_in version text)) + padding_len (item_front item version (moment_in version text))
    → BeginsWith version text (made version text item)
begun version text tail item fits bytes whole spelled taken =
    let r = room (item_front item version (moment_in version text)) tail text (padding_len (item_front item version (moment_in version text))) (padded version (size_in text)) spelled taken whole in
    record { item = fits; moment = moment_fits version text bytes; padding = _; rest = _; spelled = r.1; padded_by = r.0; taken = taken ∙ ap (λ (n : ℕ). length (item_front item version (moment_in version text)) + n) (sym r.0) }

found : (version : Version) (text : List ℕ) (item : Item) → IsBytes text → IsWhole version text
    → IsFound (counted_in text) (four_at 0 text) (eight_at 4 text) (checksum_in text) item → BeginsWith version text (made version text item)
found version text item bytes whole is =
    let peeled = text_peeled version text bytes whole in
    let fields : front (four_at 0 text) (eight_at 4 text) (counted_in text) (checksum_in text) version (moment_in version text) ≡ item_front item version (moment_in version text) =
    front-same _ _ _ _ _ _ _ _ version (moment_in version text) is.cookie_is is.key_is is.spelled is.sum_is in
    let size : size_in text ≡ length (content item) = sym peeled.0 ∙ ap length is.spelled in
    begun version text (drop (frame_len version + size_in text) text) item is.fits bytes whole
    (peeled.1 ∙ ap (λ (f : List ℕ). f ++ drop (frame_len version + size_in text) text) fields)
    (ap (padded version) size ∙ padded-is (cookie_of item) (key_of item) (content item) (checksum (body_of item)) version (moment_in version text))

refused : (version : Version) (text : List ℕ) (fault : NeedleFault) → IsBytes text → IsWhole version text
    → ItemRefused (counted_in text) (checksum_in text) fault → IsRefused version text fault
refused version text SizeMismatch bytes whole why =
    (whole, subst (λ (n : ℕ). 0 < n) (text_peeled version text bytes whole).0 why.0, λ marks needle says. why.1 marks needle says.fits says.parts)
refused version text ReservedSet bytes whole (marks, needle, is, spelled, a) =
    (marks, needle, record { whole = whole; fits = is; parts = spelled }, a)
refused version text Compressed bytes whole (marks, needle, is, spelled, a, b) =
    (marks, needle, record { whole = whole; fits = is; parts = spelled }, a, b)
refused version text Manifest bytes whole (marks, needle, is, spelled, a, b, d) =
    (marks, needle, record { whole = whole; fits = is; parts = spelled }, a, b, d)
refused version text (ChecksumMismatch s c) bytes whole (item, is, spelled, s_is, c_is, other) =
    record { whole = whole; item = item; fits = is; parts = spelled; stored_is = s_is; computed_is = c_is; other = other }
refused version text BadVersion bytes whole why = absurd why
refused version text BadPlacement bytes whole why = absurd why
refused version text Truncated bytes whole why = absurd why
refused version text Memory bytes whole why = absurd why

inner_fits : (version : Version) (text : List ℕ) → IsBytes text → IsWhole version text → IsBytes (counted_in text) × (length (counted_in text) < 2 ^ 32)
inner_fits version text bytes whole =
    (IsBytes-take (size_in text) (drop 16 text) (IsBytes-drop 16 text bytes), subst (λ (n : ℕ). n < 2 ^ 32) (sym (text_peeled version text bytes whole).0) (four_fits 12 text bytes))

pub verdict : (version : Version) (text : List ℕ) → IsBytes text → Verdict version text (read_at version text)
verdict version text bytes =
    elim (cases_lt (length text) (padded version (size_in text))) [
      | inl short ↦ subst (Verdict version text) (sym (read_at-truncated version text short)) short
      | inr whole ↦
          let fits = inner_fits version text bytes whole in
          subst (Verdict version text) (sym (read_at-whole version text whole))
          (go whole (inner version text) (outcome (counted_in text) (four_at 0 text) (eight_at 4 text) (checksum_in text) fits.0 fits.1 (four_fits 0 text bytes) (eight_fits 4 text bytes)))
    ]
  where
    go : IsWhole version text → (r : Result Item NeedleFault) → Outcome (counted_in text) (four_at 0 text) (eight_at 4 text) (checksum_in text) r
        → Verdict version text (wrapped version text r)
    go whole (Ok item) is = found version text item bytes whole is
    go whole (Err fault) why = refused version text fault bytes whole why

-- ---- the converse

item_refusal : (version : Version) (text : List ℕ) (fault : NeedleFault) → IsBytes text → IsWhole version text
    → ItemRefused (counted_in text) (checksum_in text) fault → read_at version text ≡ Err fault
item_refusal version text fault bytes whole why =
    let fits = inner_fits version text bytes whole in
    read_at-whole version text whole
    ∙ ap (wrapped version text) (item_refused (counted_in text) (four_at 0 text) (eight_at 4 text) (checksum_in text) fault fits.0 fits.1 (four_fits 0 text bytes) (eight_fits 4 text bytes) why)

pub refused_again : (version : Version) (text : List ℕ) (fault : NeedleFault) → IsBytes text → IsRefused version text fault → read_at version text ≡ Err fault
refused_again version text Truncated bytes short = read_at-truncated version text short
refused_again version text SizeMismatch bytes (whole, some, none) =
    item_refusal version text SizeMismatch bytes whole
    (subst (λ (n : ℕ). 0 < n) (sym (text_peeled version text bytes whole).0) some, λ marks needle is spelled. none marks needle (record { whole = whole; fits = is; parts = spelled }))
refused_again version text ReservedSet bytes (marks, needle, says, a) =
    item_refusal version text ReservedSet bytes says.whole (marks, needle, says.fits, says.parts, a)
refused_again version text Compressed bytes (marks, needle, says, a, b) =
    item_refusal version text Compressed bytes says.whole (marks, needle, says.fits, says.parts, a, b)
refused_again version text Manifest bytes (marks, needle, says, a, b, d) =
    item_refusal version text Manifest bytes says.whole (marks, needle, says.fits, says.parts, a, b, d)
refused_again version text (ChecksumMismatch s c) bytes is =
    item_refusal version text (ChecksumMismatch s c) bytes is.whole (is.item, is.fits, is.parts, is.stored_is, is.computed_is, is.other)
refused_again version text BadVersion bytes why = absurd why
refused_again version text BadPlacement bytes why = absurd why
refused_again version text Memory bytes why = absurd why

-- ---- what is spelled so

pub places_of : (version : Version) (item : Item) (moment : ℕ) → IsItem item → IsMoment version moment → Placed (cookie_of item) (key_of item) (content item) version moment
places_of version (Live needle) moment is fits = record { cookie_fits = is.cookie; key_fits = is.key; content_fits = is.size; moment_fits = fits }
places_of version (Gone cookie key) moment is fits = record { cookie_fits = is.0; key_fits = is.1; content_fits = omega arith; moment_fits = fits }

-- the data of an item whose content is of bytes
body_bytes : (item : Item) → IsBytes (content item) → IsBytes (body_of item)
body_bytes (Live needle) bytes =
    let len : List ℕ = to_be_bytes w32 (length needle.body) in
    let more : List ℕ = flags unmarked needle ∷ parts_text needle in
    let behind_len : IsBytes (needle.body ++ more) = subst IsBytes (drop_at len (needle.body ++ more) 4 refl) (IsBytes-drop 4 (len ++ (needle.body ++ more)) bytes) in
    subst IsBytes (take_at needle.body more (length needle.body) refl) (IsBytes-take (length needle.body) (needle.body ++ more) behind_len)
body_bytes (Gone cookie key) bytes = bytes

read-same : (item : Item) (t t' m m' : ℕ) → t ≡ t' → m ≡ m' → ◌≡◌ {A = ReadItem} (record { item = item; taken = t; moment = m }) (record { item = item; taken = t'; moment = m' })
read-same item t t' m m' a b = cc

inner-same : (cookie cookie' key key' : ℕ) (bytes bytes' : List ℕ) (sum sum' : ℕ) → cookie ≡ cookie' → key ≡ key' → bytes ≡ bytes' → sum ≡ sum'
    → item_at cookie key bytes sum ≡ item_at cookie' key' bytes' sum'
inner-same cookie cookie' key key' bytes bytes' sum sum' a b c d = cc

-- the length of an item that a text begins with
pub begun_whole : (version : Version) (text : List ℕ) (read : ReadItem) → BeginsWith version text read → size_in text ≡ length (content read.item)
    → (padded version (size_in text) ≡ read.taken) × (read.taken ≤ length text)
begun_whole version text read begins size =
    let before : List ℕ = item_front read.item version read.moment in
    let is = padded-is (cookie_of read.item) (key_of read.item) (content read.item) (checksum (body_of read.item)) version read.moment in (
      ap (padded version) size ∙ is ∙ ap (λ (n : ℕ). length before + n) (sym begins.padded_by) ∙ sym begins.taken,
      shorter text before begins.padding begins.rest read.taken begins.spelled begins.taken,
    )
  where
    shorter : (text before padding rest : List ℕ) (taken : ℕ) → text ≡ before ++ (padding ++ rest) → taken ≡ length before + length padding → taken ≤ length text
    shorter text before padding rest taken spelled is =
        let len : length text ≡ length before + (length padding + length rest) =
        ap length spelled ∙ length-append before (padding ++ rest) ∙ ap (λ (n : ℕ). length before + n) (length-append padding rest) in
        omega arith

pub begun_places : (version : Version) (text : List ℕ) (read : ReadItem) → BeginsWith version text read
    → IsPlaced (cookie_of read.item) (key_of read.item) (content read.item) (checksum (body_of read.item)) version read.moment text
begun_places version text read begins =
    subst (IsPlaced (cookie_of read.item) (key_of read.item) (content read.item) (checksum (body_of read.item)) version read.moment) (sym begins.spelled)
    (placed (cookie_of read.item) (key_of read.item) (content read.item) (checksum (body_of read.item)) version read.moment (begins.padding ++ begins.rest)
    (places_of version read.item read.moment begins.item begins.moment))

pub found_again : (version : Version) (text : List ℕ) (read : ReadItem) → IsBytes text → BeginsWith version text read → read_at version text ≡ Ok read
found_again version text read bytes begins =
    let at = begun_places version text read begins in
    let w = begun_whole version text read begins at.size_is in
    let whole : IsWhole version text = subst (λ (n : ℕ). n ≤ length text) (sym w.0) w.1 in
    let content_bytes : IsBytes (content read.item) = subst IsBytes at.content_is (inner_fits version text bytes whole).0 in
    let sum : checksum_in text ≡ checksum (body_of read.item) = at.sum_is (checksum-small (body_of read.item) (body_bytes read.item content_bytes)) in
    read_at-whole version text whole
    ∙ ap (wrapped version text) (inner-same _ _ _ _ _ _ _ _ at.cookie_is at.key_is at.content_is sum ∙ item_again read.item begins.item)
    ∙ ap Ok (read-same read.item _ _ _ _ w.0 at.moment_is)

-- ---- a call that gives what reading gives

pub is_found : (version : Version) (text : List ℕ) (result : Result ReadItem NeedleFault) → IsBytes text → Gives result (read_at version text)
    → IfOk result (λ read. BeginsWith version text read)
is_found version text (Ok read) bytes gives = subst (Verdict version text) gives (verdict version text bytes)
is_found version text (Err fault) bytes gives = tt

-- What was given, where it isn't want of memory.
gives_err : (result : Result ReadItem NeedleFault) (fault : NeedleFault) (read : Result ReadItem NeedleFault) → fault ≢ Memory → result ≡ Err fault → Gives result read → read ≡ Err fault
gives_err result BadVersion read other is gives = subst (λ (r : Result ReadItem NeedleFault). Gives r read) is gives
gives_err result BadPlacement read other is gives = subst (λ (r : Result ReadItem NeedleFault). Gives r read) is gives
gives_err result ReservedSet read other is gives = subst (λ (r : Result ReadItem NeedleFault). Gives r read) is gives
gives_err result Truncated read other is gives = subst (λ (r : Result ReadItem NeedleFault). Gives r read) is gives
gives_err result SizeMismatch read other is gives = subst (λ (r : Result ReadItem NeedleFault). Gives r read) is gives
gives_err result Compressed read other is gives = subst (λ (r : Result ReadItem NeedleFault). Gives r read) is gives
gives_err result Manifest read other is gives = subst (λ (r : Result ReadItem NeedleFault). Gives r read) is gives
gives_err result (ChecksumMismatch s c) read other is gives = subst (λ (r : Result ReadItem NeedleFault). Gives r read) is gives
gives_err result Memory read other is gives = absurd (other refl)

-- What it gave is what reading gives, or memory ran out where nothing was refused.
memory_or : (result read : Result ReadItem NeedleFault) → Gives result read → (result ≡ read) ⊎ ((result ≡ Err Memory) × IsOk read)
memory_or (Ok value) read gives = inl (sym gives)
memory_or (Err Memory) read gives = inr (refl, gives)
memory_or (Err BadVersion) read gives = inl (sym gives)
memory_or (Err BadPlacement) read gives = inl (sym gives)
memory_or (Err ReservedSet) read gives = inl (sym gives)
memory_or (Err Truncated) read gives = inl (sym gives)
memory_or (Err SizeMismatch) read gives = inl (sym gives)
memory_or (Err Compressed) read gives = inl (sym gives)
memory_or (Err Manifest) read gives = inl (sym gives)
memory_or (Err (ChecksumMismatch s c)) read gives = inl (sym gives)

pub is_only : (version : Version) (text : List ℕ) (result : Result ReadItem NeedleFault) → IsBytes text → Gives result (read_at version text)
    → (read : ReadItem) → BeginsWith version text read → (result ≡ Ok read) ⊎ (result ≡ Err Memory)
is_only version text result bytes gives read begins =
    elim (memory_or result (read_at version text) gives) [
      | inl same ↦ inl (same ∙ found_again version text read bytes begins)
      | inr memory ↦ inr memory.0
    ]

never : false ≡ true → ⊥
never e = cc

pub is_refused : (version : Version) (text : List ℕ) (result : Result ReadItem NeedleFault) → IsBytes text → Gives result (read_at version text)
    → (fault : NeedleFault) → fault ≢ Memory → ((result ≡ Err fault) ↔ IsRefused version text fault)
is_refused version text result bytes gives fault other =
    (λ is. subst (Verdict version text) (gives_err result fault (read_at version text) other is gives) (verdict version text bytes), back)
  where
    back : IsRefused version text fault → result ≡ Err fault
    back why =
        let read : read_at version text ≡ Err fault = refused_again version text fault bytes why in
        elim (memory_or result (read_at version text) gives) [
          | inl same ↦ same ∙ read
          | inr memory ↦ absurd (never (subst IsOk read memory.1))
        ]

-- Reading gives exactly the item that the text begins with.
pub read_exactly : (version : Version) (text : List ℕ) (read : ReadItem) → IsBytes text → (read_at version text ≡ Ok read) ↔ BeginsWith version text read
read_exactly version text read bytes = (λ is. subst (Verdict version text) is (verdict version text bytes), found_again version text read bytes)
