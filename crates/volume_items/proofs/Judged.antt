-- Whether an item stands at a place of a file, and which.
use Rattle.std.proofs.Common.{◌≡◌, ℕ, ◌+◌, ◌-◌, ◌*◌, ◌/◌, ◌<◌, ◌≤◌, ◌^◌, min, Bool, true, false, cond, ltb, List, ◌∷◌, ◌++◌, length, take, drop, refl, sym, ap, subst, ◌∙◌, arith, Option, Some, None, Result, Ok, Err, append_assoc}
use Rattle.std.specs.Prelude.{IfSome, IsOk, IsTrue, ◌↔◌}
use Rattle.std.specs.Int.{w32, from_be_bytes, to_be_bytes}
use Rattle.std.proofs.lemmas.Bool.{le-ltb, lt-ltb, ltb-false}
use Rattle.std.proofs.lemmas.List.{drop-drop, take-take, take-append-drop, length-drop, take_at}
use Rattle.std.proofs.Math.Seq.{take-add}
use Rattle.weed_base.specs.Files.{Files, content}
use Rattle.needle.specs.declared.fault.NeedleFault.{NeedleFault}
use Rattle.needle.specs.declared.head.Head.{Head}
use Rattle.needle.specs.declared.item.Item.{Item}
use Rattle.needle.specs.declared.item.Item.TheVariants.{Live, Gone}
use Rattle.needle.specs.declared.item.Needle.{Needle}
use Rattle.needle.specs.declared.item.ReadItem.{ReadItem}
use Rattle.needle.specs.declared.version.Version.{Version}
use Rattle.needle.specs.declared.version.Version.TheVariants.{V2, V3}
use Rattle.needle.specs.Answer.{BeginsWith, IsItem}
use Rattle.needle.specs.Fields.{AreBytes, size_in}
use Rattle.needle.specs.Item.{body_of, content as item_content, item_front, cookie_of, unmarked, flags, parts_text, key_of}
use Rattle.needle.specs.Layout.{padded, frame_len}
use Rattle.needle.specs.Pieces.{IsHead, data_behind}
use Rattle.needle.specs.Reading.{read_at}
use Rattle.needle.proofs.Codecs.{wide32}
use Rattle.needle.proofs.Followed.{read_whole, read_within}
use Rattle.needle.proofs.Places.{IsPlaced, frame-least}
use Rattle.needle.proofs.Verdicts.{begun_places, read_exactly}
use Rattle.volume_items.specs.Contents.{HoldsAt, last_end, most_data}
use Rattle.volume_items.specs.Walk.{HasHead, IsJudged, Meets}
use Rattle.volume_items.specs.Window.{IsSummed}
use Rattle.volume_items.specs.declared.look.Seen.{Seen}
use Rattle.volume_items.proofs.Spots.{needle-length, needle-most}
use Rattle.volume_items.proofs.Summed.{bytes_append}

-- ---- an item whose bytes are known

begins_on : (version : Version) (text more : List ℕ) (read : ReadItem) → BeginsWith version text read → BeginsWith version (text ++ more) read
begins_on version text more read begins = record {
  item = begins.item;
  moment = begins.moment;
  padding = begins.padding;
  rest = begins.rest ++ more;
  spelled = ap (λ (l : List ℕ). l ++ more) begins.spelled ∙ append_assoc (item_front read.item version read.moment) (begins.padding ++ begins.rest) more
      ∙ ap (λ (l : List ℕ). item_front read.item version read.moment ++ l) (append_assoc begins.padding begins.rest more);
  padded_by = begins.padded_by;
  taken = begins.taken;
}

pub begun_there : (version : Version) (text : List ℕ) (place : ℕ) (read : ReadItem) → AreBytes (take read.taken (drop place text)) → HoldsAt version text place read
    → BeginsWith version (drop place text) read
begun_there version text place read bytes held =
    let here = drop place text in
    let alone = read_within version here read.taken read held.is_read (omega arith) in
    subst (λ (t : List ℕ). BeginsWith version t read) (take-append-drop read.taken here)
    (begins_on version (take read.taken here) (drop read.taken here) read ((read_exactly version (take read.taken here) read bytes).0 alone))

-- what a head tells of the item
pub record Tells (head : Head) (item : Item) : Type 0 where
  pub key : head.key ≡ key_of item
  pub size : head.size ≡ length (item_content item)
  pub body : data_behind head ≡ length (body_of item)
  pub most : length (item_content item) ≤ length (body_of item) + 66061

data_live : (version : Version) (text : List ℕ) (moment : ℕ) (sum : ℕ) (cookie : ℕ) (needle : Needle) (head : Head) → IsHead text head → IsItem (Live needle)
    → IsPlaced cookie needle.key (item_content (Live needle)) sum version moment text → data_behind head ≡ length needle.body
data_live version text moment sum cookie needle head begins fits placed =
    let len = needle-length needle fits in
    let size : head.size ≡ length (item_content (Live needle)) = begins.size ∙ placed.size_is in
    let rest = needle.body ++ (flags unmarked needle ∷ parts_text needle) in
    let small : length needle.body < 2 ^ 32 = omega (arith, len, fits.size) in
    let four : length (to_be_bytes w32 (length needle.body)) ≡ 4 = wide32.len (length needle.body) in
    let front : take 4 (drop 16 text) ≡ to_be_bytes w32 (length needle.body) =
    sym (take-take 4 (size_in text) (drop 16 text) (omega (arith, len, placed.size_is))) ∙ ap (take 4) placed.content_is ∙ take_at (to_be_bytes w32 (length needle.body)) rest 4 four in
    let told : head.data_len ≡ length needle.body = begins.data_len ∙ ap (from_be_bytes w32) front ∙ wide32.again (length needle.body) small in
    ap (λ (b : Bool). cond b 0 head.data_len) (le-ltb head.size (head.data_len + 5) (omega (arith, told, size, len))) ∙ told

data_gone : (head : Head) → head.size ≡ 0 → data_behind head ≡ 0
data_gone head none =
    ap (λ (n : ℕ). cond (ltb n (head.data_len + 5)) 0 head.data_len) none ∙ ap (λ (b : Bool). cond b 0 head.data_len) (lt-ltb 0 (head.data_len + 5) (omega arith))

told_item : (version : Version) (text : List ℕ) (head : Head) (item : Item) (moment sum : ℕ) → IsHead text head → IsItem item
    → IsPlaced (cookie_of item) (key_of item) (item_content item) sum version moment text → Tells head item
told_item version text head (Live needle) moment sum begins fits placed = record {
  key = begins.key ∙ placed.key_is;
  size = begins.size ∙ placed.size_is;
  body = data_live version text moment sum needle.cookie needle head begins fits placed;
  most = needle-most needle fits;
}
told_item version text head (Gone cookie key) moment sum begins fits placed = record {
  key = begins.key ∙ placed.key_is;
  size = begins.size ∙ placed.size_is;
  body = data_gone head (begins.size ∙ placed.size_is);
  most = omega arith;
}

pub told_by : (version : Version) (text : List ℕ) (head : Head) (read : ReadItem) → IsHead text head → BeginsWith version text read → Tells head read.item
told_by version text head read begins begun = told_item version text head read.item read.moment _ begins begun.item (begun_places version text read begun)

-- ---- a place without an item

no_read : {read : ReadItem} {fault : NeedleFault} (r : Result ReadItem NeedleFault) → r ≡ Err fault → r ≡ Ok read → ⊥
no_read r a b = cc

pub least_taken : (version : Version) (size : ℕ) → 24 ≤ padded version size
least_taken version size = let least = frame-least version in room (size + frame_len version) (omega arith)
  where
    room : (n : ℕ) → 20 ≤ n → 24 ≤ n / 8 * 8 + 8
    room n h = omega arith

most_taken : (version : Version) (size : ℕ) → padded version size ≤ size + 36
most_taken V2 size = omega arith
most_taken V3 size = omega arith

pub none_short : (told : Option Files) (name : List ℕ) (place : ℕ) (version : Version) (head : Option Head) → head ≡ None
    → IfSome told (λ files. HasHead (content files name) place head) → IfSome told (λ files. Meets version (content files name) place None)
none_short None name place version head is has = tt
none_short (Some files) name place version None is has = λ read held.
    let text = content files name in
    let whole = (read_whole version (drop place text) read held.is_read).1 in
    let least = least_taken version (size_in (drop place text)) in
    omega (arith, length-drop place text, whole, least, has)
none_short (Some files) name place version (Some head) is has = absurd (no is)
  where
    no : Some head ≡ None → ⊥
    no e = cc

taken_is : (version : Version) (text : List ℕ) (place : ℕ) (head : Head) (read : ReadItem) → IsHead (drop place text) head → HoldsAt version text place read
    → (read.taken ≡ padded version head.size) × (place + read.taken ≤ last_end) × (read.taken ≤ length text - place)
taken_is version text place head read begins held =
    let whole = read_whole version (drop place text) read held.is_read in
    let size : padded version (size_in (drop place text)) ≡ padded version head.size = ap (padded version) (sym begins.size) in
    (whole.0 ∙ size, held.within, omega (arith, whole.0, whole.1, length-drop place text))

pub none_over : (told : Option Files) (name : List ℕ) (place len room : ℕ) (version : Version) (head : Option Head) (one : Head) → head ≡ Some one
    → IfSome told (λ files. HasHead (content files name) place head) → IfSome told (λ files. len ≡ length (content files name))
    → room < padded version one.size → room ≡ min len last_end - place → IfSome told (λ files. Meets version (content files name) place None)
none_over None name place len room version head one some has is over few = tt
none_over (Some files) name place len room version head one some has is over few = λ read held.
    let facts = taken_is version (content files name) place one read (subst (HasHead (content files name) place) some has).0 held in
    let least = least_taken version one.size in
    omega (arith, facts.0, facts.1, facts.2, over, few, is, least)

-- ---- whether an item stands there

pub never_true : false ≡ true → ⊥
never_true e = cc

module _ (version : Version) (text : List ℕ) (place : ℕ) (head : Head) (has : HasHead text place (Some head)) (there : place + padded version head.size ≤ length text)
    (within : place + padded version head.size ≤ last_end) where
  abbrev body_len : ℕ
  body_len = data_behind head

  abbrev all : ℕ
  all = padded version head.size

  pub whole_bytes : 20 + body_len ≤ all → AreBytes (take body_len (drop (place + 20) text)) → AreBytes (take (all - 20 - body_len) (drop (place + 20 + body_len) text)) → AreBytes (take all (drop place text))
  whole_bytes fits body tail =
      let here = drop place text in
      let parts : all ≡ 20 + (body_len + (all - 20 - body_len)) = omega arith in
      let behind : drop 20 here ≡ drop (place + 20) text = drop-drop 20 place text in
      let end : drop body_len (drop (place + 20) text) ≡ drop (place + 20 + body_len) text = drop-drop body_len (place + 20) text in
      subst AreBytes (sym (ap (λ (n : ℕ). take n here) parts ∙ take-add 20 (body_len + (all - 20 - body_len)) here
      ∙ ap (λ (l : List ℕ). take 20 here ++ take (body_len + (all - 20 - body_len)) l) behind
      ∙ ap (λ (l : List ℕ). take 20 here ++ l) (take-add body_len (all - 20 - body_len) (drop (place + 20) text) ∙ ap (λ (l : List ℕ). take body_len (drop (place + 20) text) ++ take (all - 20 - body_len) l) end)))
      (bytes_append (take 20 here) _ has.1 (bytes_append (take body_len (drop (place + 20) text)) _ body tail))

  pub tells : AreBytes (take all (drop place text)) → (read : ReadItem) → HoldsAt version text place read → Tells head read.item
  tells bytes read held =
      let taken = (taken_is version text place head read has.0 held).0 in
      told_by version (drop place text) head read has.0
      (begun_there version text place read (subst (λ (n : ℕ). AreBytes (take n (drop place text))) (sym taken) bytes) held)

  pub too_long : AreBytes (take all (drop place text)) → 1048576 < all - 20 - body_len → IsJudged version text place all false
  too_long bytes long = record {
    bytes = bytes;
    judged = (
      λ no. absurd (never_true no),
      λ it.
          let told = tells bytes it.0 it.1 in
          let most = most_taken version head.size in
          absurd (omega (arith, told.size, told.body, told.most, most, long)),
    );
  }

  pub judged_by : (is : Bool) → AreBytes (take all (drop place text)) → (IsTrue is → IsOk (read_at version (drop place text)) × (body_len ≤ most_data))
      → (IsOk (read_at version (drop place text)) → body_len ≤ most_data → IsTrue is) → IsJudged version text place all is
  judged_by is bytes only back = record {
    bytes = bytes;
    judged = (
      λ good. found (read_at version (drop place text)) refl (only good).0 (only good).1,
      λ it.
          let told = tells bytes it.0 it.1 in
          back (subst IsOk (sym (it.1).is_read) refl) (omega (arith, told.body, (it.1).small)),
    );
  }
    where
      found : (r : Result ReadItem NeedleFault) → read_at version (drop place text) ≡ r → IsOk r → body_len ≤ most_data → (read : ReadItem) × HoldsAt version text place read
      found (Ok read) e good few =
          let whole = read_whole version (drop place text) read e in
          let size : padded version (size_in (drop place text)) ≡ all = ap (padded version) (sym (has.0).size) in
          let begun = subst (λ (t : List ℕ). BeginsWith version t read) (take-append-drop read.taken (drop place text))
          (begins_on version (take read.taken (drop place text)) (drop read.taken (drop place text)) read
          ((read_exactly version (take read.taken (drop place text)) read (subst (λ (n : ℕ). AreBytes (take n (drop place text))) (sym (whole.0 ∙ size)) bytes)).0
          (read_within version (drop place text) read.taken read e (omega arith)))) in
          let told = told_by version (drop place text) head read has.0 begun in
          (read, record { is_read = e; small = omega (arith, told.body, few); within = omega (arith, whole.0, size, within) })
      found (Err fault) e good few = absurd (never_true good)

-- ---- the same of files, where told

fits_in : (version : Version) (head : Head) → 20 + data_behind head ≤ padded version head.size
fits_in version head =
    let least = frame-least version in
    by_test (ltb head.size (head.data_len + 5)) refl (room (head.size + frame_len version) head.size (omega arith))
  where
    room : (n size : ℕ) → size + 20 ≤ n → size + 20 ≤ n / 8 * 8 + 8
    room n size h = omega arith

    by_test : (b : Bool) → ltb head.size (head.data_len + 5) ≡ b → head.size + 20 ≤ padded version head.size → 20 + cond b 0 head.data_len ≤ padded version head.size
    by_test true e h = omega (arith, h)
    by_test false e h = let long : head.data_len + 5 ≤ head.size = ltb-false head.size (head.data_len + 5) e in omega (arith, h, long)

-- where the parts of an item lie
pub record IsLaid (version : Version) (head : Head) (place start len tail : ℕ) : Type 0 where
  pub start_is : start ≡ place + 20
  pub len_is : len ≡ data_behind head
  pub tail_is : tail ≡ padded version head.size - 20 - len

module _ (name : List ℕ) (version : Version) (head : Head) (place start len tail : ℕ) (laid : IsLaid version head place start len tail)
    (within : place + padded version head.size ≤ last_end) where
  all_bytes : (text : List ℕ) → HasHead text place (Some head) → place + padded version head.size ≤ length text → AreBytes (take len (drop start text)) → AreBytes (take tail (drop (start + len) text))
      → AreBytes (take (padded version head.size) (drop place text))
  all_bytes text has there body behind =
      let at : start + len ≡ place + 20 + data_behind head = omega (arith, laid.start_is, laid.len_is) in
      let left : tail ≡ padded version head.size - 20 - data_behind head = omega (arith, laid.tail_is, laid.len_is) in
      whole_bytes version text place head has there within (fits_in version head)
      (subst (λ (n : ℕ). AreBytes (take n (drop (place + 20) text))) laid.len_is (subst (λ (n : ℕ). AreBytes (take len (drop n text))) laid.start_is body))
      (subst (λ (n : ℕ). AreBytes (take n (drop (place + 20 + data_behind head) text))) left (subst (λ (n : ℕ). AreBytes (take tail (drop n text))) at behind))

  pub told_too_long : (told : Option Files) (a b : ℕ) → 1048576 < tail → IfSome told (λ files. HasHead (content files name) place (Some head))
      → IfSome told (λ files. place + padded version head.size ≤ length (content files name))
      → IfSome told (λ files. IsSummed (content files name) start len a) → IfSome told (λ files. IsSummed (content files name) (start + len) tail b)
      → IfSome told (λ files. IsJudged version (content files name) place (padded version head.size) false)
  told_too_long None a b long has there body behind = tt
  told_too_long (Some files) a b long has there body behind =
      too_long version (content files name) place head has there within (all_bytes (content files name) has there body.bytes behind.bytes) (omega (arith, long, laid.tail_is, laid.len_is))

  pub told_judged : (told : Option Files) (sum : ℕ) (ok is : Bool) → IfSome told (λ files. HasHead (content files name) place (Some head))
      → IfSome told (λ files. place + padded version head.size ≤ length (content files name))
      → IfSome told (λ files. IsSummed (content files name) start len sum) → IfSome told (λ files. AreBytes (take tail (drop (start + len) (content files name))))
      → IfSome told (λ files. (from : ℕ) → start + len ≡ from + 20 + data_behind head → IsHead (drop from (content files name)) head
      → IsSummed (content files name) (from + 20) (data_behind head) sum → IsTrue ok ↔ IsOk (read_at version (drop from (content files name))))
      → (IsTrue is → IsTrue ok × (len ≤ most_data)) → (IsTrue ok → len ≤ most_data → IsTrue is)
      → IfSome told (λ files. IsJudged version (content files name) place (padded version head.size) is)
  told_judged None sum ok is has there body behind checked only back = tt
  told_judged (Some files) sum ok is has there body behind checked only back =
      let text = content files name in
      let summed : IsSummed text (place + 20) (data_behind head) sum =
      subst (λ (n : ℕ). IsSummed text (place + 20) n sum) laid.len_is (subst (λ (n : ℕ). IsSummed text n len sum) laid.start_is body) in
      let both = checked place (omega (arith, laid.start_is, laid.len_is)) has.0 summed in
      judged_by version text place head has there within is (all_bytes text has there body.bytes behind)
      (λ good. let w = only good in (both.0 w.0, subst (λ (n : ℕ). n ≤ most_data) laid.len_is w.1))
      (λ read few. back (both.1 read) (subst (λ (n : ℕ). n ≤ most_data) (sym laid.len_is) few))

pub seen : (told : Option Files) (name : List ℕ) (version : Version) (found : Option Head) (head : Head) (place : ℕ) (it : Seen) (is : Bool) → IsTrue is → it.key ≡ head.key → it.size ≡ head.size
    → it.taken ≡ padded version head.size → found ≡ Some head → IfSome told (λ files. HasHead (content files name) place found)
    → IfSome told (λ files. IsJudged version (content files name) place (padded version head.size) is) → IfSome told (λ files. Meets version (content files name) place (Some it))
seen None name version given head place it is good key size taken some before judged = tt
seen (Some files) name version given head place it is good key size taken some before judged =
    let has = subst (HasHead (content files name) place) some before in
    let text = content files name in
    let found = judged.judged.0 good in
    let long = (taken_is version text place head found.0 has.0 found.1).0 in
    let bytes : AreBytes (take (found.0).taken (drop place text)) = subst (λ (n : ℕ). AreBytes (take n (drop place text))) (sym long) judged.bytes in
    let told = told_by version (drop place text) head found.0 has.0 (begun_there version text place found.0 bytes found.1) in
    record {
      read = found.0;
      held = found.1;
      key = key ∙ told.key;
      size = size ∙ told.size;
      taken = taken ∙ sym long;
      bytes = bytes;
    }
