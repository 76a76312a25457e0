-- A heartbeat that is written is read back.
use Rattle.std.proofs.Common.{◌≡◌, ℕ, ◌+◌, ◌*◌, ◌/◌, ◌%◌, ◌≤◌, ◌<◌, ◌^◌, Bool, true, false, not, cond, ◌&&◌, eqb, nat_lt, List, [], ◌∷◌, ◌++◌, map, length, Option, None, Some, Ok, refl, sym, ap, ◌∙◌, subst, inl, inr, arith, length-append, append-nil, append_assoc}
use Rattle.std.specs.Prelude.{option_to_list}
use Rattle.std.specs.List.{AllZip, AllByRecursion, list_all}
use Rattle.std.specs.Option.{option_map_or, option_or}
use Rattle.std.specs.Result.{result_ok, result_err}
use Rattle.std.specs.Str.{is_utf8}
use Rattle.std.proofs.lemmas.Bool.{lt-ltb, le-leb}
use Rattle.std.proofs.lemmas.Bool.Decides.{eqb_tells}
use Rattle.std.proofs.lemmas.List.Elements.{filter_map-append}
use Rattle.std.proofs.lemmas.Str.{is_utf8-from_IsUtf8}
use Rattle.proto_wire.specs.declared.fault.WireFault.TheVariants.{BadVarint}
use Rattle.proto_wire.specs.Text.{IsFieldNumber, tag_text, varint_text, varint_field, bytes_field, message_field}
use Rattle.proto_wire.specs.Field.{◌>>=◌, Varint, Bytes, FieldText, fields_of}
use Rattle.proto_wire.specs.Taken.{last_number, last_text, messages_at, text_in}
use Rattle.proto_wire.proofs.Seen.{messages_at-more}
use Rattle.proto_wire.proofs.Spells.{Spells, Spells-nil, Spells-append, Spells-number, Spells-bytes, Spells-message, Spells-whole, number_fields, text_fields}
use Rattle.needle.specs.SuperBlock.{placement_byte}
use Rattle.topology.specs.declared.report.VolumeReport.{VolumeReport}
use Rattle.master.specs.declared.volume_message.VolumeFields.{VolumeFields}
use Rattle.master.specs.VolumeText.{volume_in, volume_with, volume_at, is_digits, is_good_volume, is_good_text, ttl_number, IsReport}
use Rattle.master.specs.HeartbeatText.{HeartbeatText, first_fault, heartbeat_in, are_good}
use Rattle.master.specs.HeartbeatReading.{fault_in, text_fault, ReadsHeartbeat}
use Rattle.master.specs.HeartbeatWriting.{bit, volume_text, volumes_text, node_text, heartbeat_text}
use Rattle.master.specs.ReadBack.{FitsReport, FitsHeartbeat}
use Rattle.master.specs.declared.heartbeat.Heartbeat.{Heartbeat}
use Rattle.master.proofs.Messages.{field_with, volume_number, heartbeat_number, heartbeat_text as heartbeat_text_taken}

-- The fields make this of the message.
record Makes {S : Type 0} (made_of : List FieldText → S) (fields : List FieldText) (made : S) : Type 0 where
  is : made_of fields ≡ made

number_more : {S : Type 0} (made_of : List FieldText → S) (step : ℕ → S → S) (before : List FieldText) (made : S) (n v : ℕ)
    → Makes made_of before made → step 0 made ≡ made → step v (made_of before) ≡ made_of (before ++ field_with n (Varint v) ∷ [])
    → Makes made_of (before ++ number_fields n v) (step v made)
number_more made_of step before made n v makes still taken =
    elim (eqb_tells v 0) [
      | inl none ↦ record {
        is = ap (λ b. made_of (before ++ cond b [] (field_with n (Varint v) ∷ []))) none.0 ∙ ap made_of (append-nil before) ∙ makes.is ∙ sym still ∙ ap (λ w. step w made) (sym none.1);
      }
      | inr some ↦ record {
        is = ap (λ b. made_of (before ++ cond b [] (field_with n (Varint v) ∷ []))) some.0 ∙ sym taken ∙ ap (step v) makes.is;
      }
    ]

no_bytes : (b : List ℕ) → length b ≡ 0 → [] ≡ b
no_bytes [] e = refl
no_bytes (x ∷ b) e = absurd (omega arith)

text_more : {S : Type 0} (made_of : List FieldText → S) (step : List ℕ → S → S) (before : List FieldText) (made : S) (n : ℕ) (b : List ℕ)
    → Makes made_of before made → step [] made ≡ made → step b (made_of before) ≡ made_of (before ++ field_with n (Bytes b) ∷ [])
    → Makes made_of (before ++ text_fields n b) (step b made)
text_more made_of step before made n b makes still taken =
    elim (eqb_tells (length b) 0) [
      | inl none ↦ record {
        is = ap (λ t. made_of (before ++ cond t [] (field_with n (Bytes b) ∷ []))) none.0 ∙ ap made_of (append-nil before) ∙ makes.is ∙ sym still ∙ ap (λ w. step w made) (no_bytes b none.1);
      }
      | inr some ↦ record {
        is = ap (λ t. made_of (before ++ cond t [] (field_with n (Bytes b) ∷ []))) some.0 ∙ sym taken ∙ ap (step b) makes.is;
      }
    ]

-- ---- VolumeInformationMessage

abbrev volume_fields : VolumeReport → List FieldText
volume_fields r = number_fields 1 r.volume ++ number_fields 2 r.size ++ number_fields 3 (placement_byte r.placement) ++ number_fields 4 (bit r.read_only) ++ number_fields 5 (ttl_number r.ttl)

abbrev spelled_volume : VolumeReport → VolumeFields
spelled_volume r = record { id = r.volume; size = r.size; placement = placement_byte r.placement; read_only = bit r.read_only; ttl = ttl_number r.ttl }

number : {before : List FieldText} {made : VolumeFields} (n v : ℕ) → Makes volume_in before made → volume_with n 0 made ≡ made → Makes volume_in (before ++ number_fields n v) (volume_with n v made)
number {before = before} {made = made} n v makes still = number_more volume_in (volume_with n) before made n v makes still (volume_number before n v)

no_volume : Makes volume_in [] (volume_in [])
no_volume = record { is = refl }

volume_in-fields : (r : VolumeReport) → volume_in (volume_fields r) ≡ spelled_volume r
volume_in-fields r =
    let two = number 2 r.size (number 1 r.volume no_volume refl) refl in
    (number 5 (ttl_number r.ttl) (number 4 (bit r.read_only) (number 3 (placement_byte r.placement) two refl) refl) refl).is

bit_fits : (b : Bool) → bit b < 2 ^ 64
bit_fits true = omega arith
bit_fits false = omega arith

Spells-volume : (r : VolumeReport) → FitsReport r → Spells (volume_text r) (volume_fields r)
Spells-volume r fits =
    let n : (n v : ℕ) → IsFieldNumber n → v < 2 ^ 64 → Spells (varint_field n v) (number_fields n v) = Spells-number in
    let digits = r.placement.in_range in
    let two = Spells-append _ _ _ _ (n 1 r.volume (record { low = omega arith; high = omega arith }) (omega (arith, fits.volume))) (n 2 r.size (record { low = omega arith; high = omega arith }) fits.size) in
    let three = Spells-append _ _ _ _ two (n 3 (placement_byte r.placement) (record { low = omega arith; high = omega arith }) (omega (arith, digits))) in
    let four = Spells-append _ _ _ _ three (n 4 (bit r.read_only) (record { low = omega arith; high = omega arith }) (bit_fits r.read_only)) in
    Spells-append _ _ _ _ four (n 5 (ttl_number r.ttl) (record { low = omega arith; high = omega arith }) (omega (arith, fits.ttl)))

volume_is : (r : VolumeReport) → FitsReport r → volume_at (volume_text r) ≡ Ok (spelled_volume r)
volume_is r fits = ap (λ read. read >>= λ fields. Ok (volume_in fields)) (Spells-whole (volume_text r) (volume_fields r) (Spells-volume r fits)) ∙ ap Ok (volume_in-fields r)

bit_again : (b : Bool) → b ≡ not (eqb (bit b) 0)
bit_again true = refl
bit_again false = refl

pub report_is : (r : VolumeReport) → FitsReport r → IsReport (volume_text r) r
report_is r fits = record {
  fields = spelled_volume r;
  read = volume_is r fits;
  is = record { volume = refl; size = refl; placement = refl; read_only = bit_again r.read_only; ttl = refl };
}

and_true : (a b : Bool) → a ≡ true → b ≡ true → (a && b) ≡ true
and_true a b first second = ap (λ x. x && b) first ∙ second

digits_again : (x y z n : ℕ) → n ≡ 100 * x + 10 * y + z → x ≤ 2 → y ≤ 2 → z ≤ 2 → is_digits n ≡ true
digits_again x y z n is a b c =
    let h : n / 100 ≤ 2 = omega arith in
    let t : n / 10 % 10 ≤ 2 = omega arith in
    let u : n % 10 ≤ 2 = omega arith in
    and_true _ _ (and_true _ _ (le-leb (n / 100) 2 h) (le-leb (n / 10 % 10) 2 t)) (le-leb (n % 10) 2 u)

pub report_good : (r : VolumeReport) → FitsReport r → is_good_text (volume_text r) ≡ true
report_good r fits =
    ap (λ read. option_map_or is_good_volume (result_ok read) false) (volume_is r fits)
    ∙ and_true _ _ (and_true _ _ (lt-ltb r.volume (2 ^ 32) fits.volume)
    (digits_again r.placement.x r.placement.y r.placement.z (placement_byte r.placement) refl r.placement.in_range.0 r.placement.in_range.1 r.placement.in_range.2)) (le-leb (ttl_number r.ttl) 65535 fits.ttl)

pub report_no_fault : (r : VolumeReport) → FitsReport r → result_err (volume_at (volume_text r)) ≡ None
report_no_fault r fits = ap result_err (volume_is r fits)

-- ---- Heartbeat

abbrev node_fields : Heartbeat → List FieldText
node_fields beat =
    text_fields 1 beat.node.id ++ text_fields 2 beat.node.public ++ text_fields 3 beat.node.data_center ++ text_fields 4 beat.node.rack
    ++ number_fields 5 beat.node.room ++ number_fields 6 beat.greatest

abbrev reports_fields : List VolumeReport → List FieldText
reports_fields reports = map (λ report. field_with 7 (Bytes (volume_text report))) reports

-- all but the volumes
record Scalars : Type 0 where
  id : List ℕ
  public : List ℕ
  data_center : List ℕ
  rack : List ℕ
  room : ℕ
  greatest : ℕ

abbrev scalars_of : HeartbeatText → Scalars
scalars_of b = record { id = b.id; public = b.public; data_center = b.data_center; rack = b.rack; room = b.room; greatest = b.greatest }

abbrev scalars_in : List FieldText → Scalars
scalars_in fields = scalars_of (heartbeat_in fields)

abbrev with_number : ℕ → ℕ → Scalars → Scalars
with_number number value b = record b { room = cond (eqb number 5) value b.room; greatest = cond (eqb number 6) value b.greatest }

abbrev with_text : ℕ → List ℕ → Scalars → Scalars
with_text number text b = record b {
  id = cond (eqb number 1) text b.id;
  public = cond (eqb number 2) text b.public;
  data_center = cond (eqb number 3) text b.data_center;
  rack = cond (eqb number 4) text b.rack;
}

scalar_number : {before : List FieldText} {made : Scalars} (n v : ℕ) → Makes scalars_in before made → with_number n 0 made ≡ made → Makes scalars_in (before ++ number_fields n v) (with_number n v made)
scalar_number {before = before} {made = made} n v makes still = number_more scalars_in (with_number n) before made n v makes still (ap scalars_of (heartbeat_number before n v))

scalar_text : {before : List FieldText} {made : Scalars} (n : ℕ) (b : List ℕ) → Makes scalars_in before made → with_text n [] made ≡ made → Makes scalars_in (before ++ text_fields n b) (with_text n b made)
scalar_text {before = before} {made = made} n b makes still = text_more scalars_in (with_text n) before made n b makes still (ap scalars_of (heartbeat_text_taken before n b))

no_scalars : Makes scalars_in [] (scalars_in [])
no_scalars = record { is = refl }

abbrev spelled : Heartbeat → Scalars
spelled beat = record { id = beat.node.id; public = beat.node.public; data_center = beat.node.data_center; rack = beat.node.rack; room = beat.node.room; greatest = beat.greatest }

scalars-node : (beat : Heartbeat) → scalars_in (node_fields beat) ≡ spelled beat
scalars-node beat =
    let two = scalar_text 2 beat.node.public (scalar_text 1 beat.node.id no_scalars refl) refl in
    let four = scalar_text 4 beat.node.rack (scalar_text 3 beat.node.data_center two refl) refl in
    (scalar_number 6 beat.greatest (scalar_number 5 beat.node.room four refl) refl).is

scalars-reports : (before : List FieldText) (reports : List VolumeReport) → scalars_in (before ++ reports_fields reports) ≡ scalars_in before
scalars-reports before [] = ap scalars_in (append-nil before)
scalars-reports before (r ∷ rs) =
    ap scalars_in (sym (append_assoc before (field_with 7 (Bytes (volume_text r)) ∷ []) (reports_fields rs)))
    ∙ scalars-reports (before ++ field_with 7 (Bytes (volume_text r)) ∷ []) rs
    ∙ sym (ap scalars_of (heartbeat_text_taken before 7 (volume_text r)))

-- the volumes alone
none_either : (b : Bool) → (let n : Option (List ℕ) = None in n ≡ cond b n n)
none_either true = refl
none_either false = refl

messages_number : {before : List FieldText} {made : List (List ℕ)} (n v : ℕ) → Makes (messages_at 7) before made → Makes (messages_at 7) (before ++ number_fields n v) made
messages_number {before = before} {made = made} n v makes =
    number_more (messages_at 7) (λ _ m. m) before made n v makes refl
    (sym (append-nil (messages_at 7 before)) ∙ ap (λ (o : Option (List ℕ)). messages_at 7 before ++ option_to_list o) (none_either (eqb n 7)) ∙ sym (messages_at-more 7 before (field_with n (Varint v))))

messages_text : {before : List FieldText} {made : List (List ℕ)} (n : ℕ) (b : List ℕ) → eqb n 7 ≡ false → Makes (messages_at 7) before made → Makes (messages_at 7) (before ++ text_fields n b) made
messages_text {before = before} {made = made} n b other makes =
    text_more (messages_at 7) (λ _ m. m) before made n b makes refl
    (sym (append-nil (messages_at 7 before)) ∙ ap (λ t. messages_at 7 before ++ option_to_list (cond t (Some b) None)) (sym other) ∙ sym (messages_at-more 7 before (field_with n (Bytes b))))

no_messages : Makes (messages_at 7) [] []
no_messages = record { is = refl }

messages-node : (beat : Heartbeat) → messages_at 7 (node_fields beat) ≡ []
messages-node beat =
    let two = messages_text 2 beat.node.public refl (messages_text 1 beat.node.id refl no_messages) in
    let four = messages_text 4 beat.node.rack refl (messages_text 3 beat.node.data_center refl two) in
    (messages_number 6 beat.greatest (messages_number 5 beat.node.room four)).is

messages-reports : (reports : List VolumeReport) → messages_at 7 (reports_fields reports) ≡ map volume_text reports
messages-reports [] = refl
messages-reports (r ∷ rs) = ap (λ rest. volume_text r ∷ rest) (messages-reports rs)

pub messages-all : (beat : Heartbeat) (reports : List VolumeReport) → messages_at 7 (node_fields beat ++ reports_fields reports) ≡ map volume_text reports
messages-all beat reports =
    filter_map-append (text_in 7) (node_fields beat) (reports_fields reports) ∙ ap (λ l. l ++ messages_at 7 (reports_fields reports)) (messages-node beat) ∙ messages-reports reports

pub scalars-all : (beat : Heartbeat) (reports : List VolumeReport) → scalars_in (node_fields beat ++ reports_fields reports) ≡ spelled beat
scalars-all beat reports = scalars-reports (node_fields beat) reports ∙ scalars-node beat

inside_message : (n : ℕ) (b : List ℕ) → length b ≤ length (message_field n b)
inside_message n b = let e = length-append (tag_text n 2 ++ varint_text (length b)) b in omega (arith, e)

inside_bytes : (n : ℕ) (b : List ℕ) → length b ≤ length (bytes_field n b)
inside_bytes n b =
    elim (eqb_tells (length b) 0) [
      | inl none ↦ omega (arith, none.1)
      | inr some ↦ subst (λ t. length b ≤ length (cond t [] (message_field n b))) (sym some.0) (inside_message n b)
    ]

pub Spells-reports : (reports : List VolumeReport) → length (volumes_text reports) < 2 ^ 64 → Spells (volumes_text reports) (reports_fields reports)
Spells-reports [] short = Spells-nil
Spells-reports (r ∷ rs) short =
    let e = length-append (message_field 7 (volume_text r)) (volumes_text rs) in
    let inside = inside_message 7 (volume_text r) in
    let first : length (volume_text r) < 2 ^ 64 = omega (arith, e, inside, short) in
    let rest : length (volumes_text rs) < 2 ^ 64 = omega (arith, e, short) in
    Spells-append _ _ _ _ (Spells-message 7 (volume_text r) (record { low = omega arith; high = omega arith }) first) (Spells-reports rs rest)

pub Spells-node : (beat : Heartbeat) → FitsHeartbeat beat → length (node_text beat) < 2 ^ 64 → Spells (node_text beat) (node_fields beat)
Spells-node beat fits short =
    let a = bytes_field 1 beat.node.id in
    let b = bytes_field 2 beat.node.public in
    let c = bytes_field 3 beat.node.data_center in
    let d = bytes_field 4 beat.node.rack in
    let e = varint_field 5 beat.node.room in
    let f = varint_field 6 beat.greatest in
    let l1 = length-append a b in
    let l2 = length-append (a ++ b) c in
    let l3 = length-append ((a ++ b) ++ c) d in
    let l4 = length-append (((a ++ b) ++ c) ++ d) e in
    let l5 = length-append ((((a ++ b) ++ c) ++ d) ++ e) f in
    let i1 = inside_bytes 1 beat.node.id in
    let i2 = inside_bytes 2 beat.node.public in
    let i3 = inside_bytes 3 beat.node.data_center in
    let i4 = inside_bytes 4 beat.node.rack in
    let s1 : length beat.node.id < 2 ^ 64 = omega (arith, short, l1, l2, l3, l4, l5, i1) in
    let s2 : length beat.node.public < 2 ^ 64 = omega (arith, short, l1, l2, l3, l4, l5, i2) in
    let s3 : length beat.node.data_center < 2 ^ 64 = omega (arith, short, l2, l3, l4, l5, i3) in
    let s4 : length beat.node.rack < 2 ^ 64 = omega (arith, short, l3, l4, l5, i4) in
    let two = Spells-append _ _ _ _ (Spells-bytes 1 beat.node.id (record { low = omega arith; high = omega arith }) s1) (Spells-bytes 2 beat.node.public (record { low = omega arith; high = omega arith }) s2) in
    let four = Spells-append _ _ _ _ (Spells-append _ _ _ _ two (Spells-bytes 3 beat.node.data_center (record { low = omega arith; high = omega arith }) s3)) (Spells-bytes 4 beat.node.rack (record { low = omega arith; high = omega arith }) s4) in
    Spells-append _ _ _ _ (Spells-append _ _ _ _ four (Spells-number 5 beat.node.room (record { low = omega arith; high = omega arith }) (omega (arith, fits.room)))) (Spells-number 6 beat.greatest (record { low = omega arith; high = omega arith }) fits.greatest)

reports_are : (reports : List VolumeReport) → AllByRecursion FitsReport reports → AllZip IsReport (map volume_text reports) reports
reports_are [] fits = tt
reports_are (r ∷ rs) fits = (report_is r fits.0, reports_are rs fits.1)

no_fault : (reports : List VolumeReport) → AllByRecursion FitsReport reports → first_fault (map volume_text reports) ≡ None
no_fault [] fits = refl
no_fault (r ∷ rs) fits = ap (λ o. option_or o (first_fault (map volume_text rs))) (report_no_fault r fits.0) ∙ no_fault rs fits.1

all_good : (reports : List VolumeReport) → AllByRecursion FitsReport reports → list_all is_good_text (map volume_text reports) ≡ true
all_good [] fits = refl
all_good (r ∷ rs) fits = ap (λ b. b && list_all is_good_text (map volume_text rs)) (report_good r fits.0) ∙ all_good rs fits.1

pub read_back : (beat : Heartbeat) → FitsHeartbeat beat → length (heartbeat_text beat) < 2 ^ 64 → ReadsHeartbeat (heartbeat_text beat) (Ok beat)
read_back beat fits short =
    let reports : List VolumeReport = beat.volumes in
    let fields : List FieldText = node_fields beat ++ reports_fields reports in
    let e = length-append (node_text beat) (volumes_text reports) in
    let short_node : length (node_text beat) < 2 ^ 64 = omega (arith, e, short) in
    let short_reports : length (volumes_text reports) < 2 ^ 64 = omega (arith, e, short) in
    let whole : fields_of (heartbeat_text beat) ≡ Ok fields = Spells-whole (heartbeat_text beat) fields (Spells-append _ _ _ _ (Spells-node beat fits short_node) (Spells-reports reports short_reports)) in
    let told : scalars_in fields ≡ spelled beat = scalars-all beat reports in
    let texts : messages_at 7 fields ≡ map volume_text reports = messages-all beat reports in
    let id : last_text 1 fields ≡ beat.node.id = ap (λ (s : Scalars). s.id) told in
    let public : last_text 2 fields ≡ beat.node.public = ap (λ (s : Scalars). s.public) told in
    let center : last_text 3 fields ≡ beat.node.data_center = ap (λ (s : Scalars). s.data_center) told in
    let rack : last_text 4 fields ≡ beat.node.rack = ap (λ (s : Scalars). s.rack) told in
    let room : last_number 5 fields ≡ beat.node.room = ap (λ (s : Scalars). s.room) told in
    let greatest : last_number 6 fields ≡ beat.greatest = ap (λ (s : Scalars). s.greatest) told in
    let good : are_good (heartbeat_in fields) ≡ true =
    and_true _ _ (and_true _ _ (and_true _ _ (and_true _ _ (and_true _ _
    (ap is_utf8 id ∙ is_utf8-from_IsUtf8 beat.node.id fits.id) (ap is_utf8 public ∙ is_utf8-from_IsUtf8 beat.node.public fits.public))
    (ap is_utf8 center ∙ is_utf8-from_IsUtf8 beat.node.data_center fits.data_center)) (ap is_utf8 rack ∙ is_utf8-from_IsUtf8 beat.node.rack fits.rack))
    (ap (λ n. nat_lt n (2 ^ 32)) room ∙ lt-ltb beat.node.room (2 ^ 32) fits.room)) (ap (list_all is_good_text) texts ∙ all_good reports fits.volumes) in
    let none : text_fault (heartbeat_text beat) ≡ None =
    ap fault_in whole ∙ ap (λ o. option_or o (cond (are_good (heartbeat_in fields)) None (Some BadVarint))) (ap first_fault texts ∙ no_fault reports fits.volumes)
    ∙ ap (λ b. cond b None (Some BadVarint)) good in (
      none,
      (
        fields,
        whole,
        record {
          id = sym id;
          public = sym public;
          data_center = sym center;
          rack = sym rack;
          room = sym room;
          greatest = sym greatest;
          volumes = subst (λ l. AllZip IsReport l reports) (sym texts) (reports_are reports fits.volumes);
        },
      ),
    )
