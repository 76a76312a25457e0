-- The reports of a heartbeat, one field after another.
use Rattle.std.proofs.Common.{◌≡◌, ℕ, ◌^◌, nat_lt, List, [], ◌∷◌, ◌++◌, filter, Bool, true, false, cond, ◌&&◌, Option, None, Some, Result, Ok, refl, sym, ap, ◌∙◌, subst, append-nil}
use Rattle.std.specs.Prelude.{option_to_list}
use Rattle.std.specs.List.{AllZip, list_all}
use Rattle.std.specs.Option.{option_or}
use Rattle.std.specs.Str.{is_utf8}
use Rattle.proto_wire.specs.declared.fault.WireFault.TheVariants.{BadVarint}
use Rattle.topology.specs.declared.node.Node.{Node}
use Rattle.master.specs.HeartbeatText.{HeartbeatText, first_fault, heartbeat_in, are_good, IsNodeOf}
use Rattle.std.proofs.lemmas.List.Elements.{filter-append}
use Rattle.proto_wire.specs.declared.fault.WireFault.{WireFault}
use Rattle.proto_wire.specs.declared.field.Field.{Field}
use Rattle.proto_wire.specs.Field.{FieldText, field_text, fields_of, with_first}
use Rattle.proto_wire.specs.Reading.{TakesFirst}
use Rattle.proto_wire.specs.Taken.{text_in, messages_at, last_text, last_number}
use Rattle.proto_wire.proofs.Seen.{with_seen, with_seen-none, with_seen-more, messages_at-more}
use Rattle.topology.specs.declared.report.VolumeReport.{VolumeReport}
use Rattle.master.specs.VolumeText.{is_good_text, IsReport}
use Rattle.master.specs.HeartbeatReading.{FindsReport, AreReports, fault_in, IsHeartbeat}

-- What was collected so far: the fields seen, and the reports of these
pub record CollectsSo (text : List ℕ) (left : Result (List FieldText) WireFault) (reports : List VolumeReport) : Type 0 where
  pub seen : List FieldText
  pub parts : fields_of text ≡ with_seen seen left
  pub collected : AreReports seen reports

pub collects_none : (text : List ℕ) (left : Result (List FieldText) WireFault) (reports : List VolumeReport) → left ≡ fields_of text → reports ≡ [] → CollectsSo text left reports
collects_none text left reports is none =
    subst (CollectsSo text left) (sym none) (subst (λ l. CollectsSo text l []) (sym is) (record { seen = []; parts = with_seen-none (fields_of text); collected = tt }))

some_none : {V : Type 0} (v : V) → Some v ≡ None → ⊥
some_none v e = cc

zip_push : (texts : List (List ℕ)) (reports : List VolumeReport) (text : List ℕ) (report : VolumeReport) → AllZip IsReport texts reports → IsReport text report → AllZip IsReport (texts ++ text ∷ []) (reports ++ report ∷ [])
zip_push [] [] text report all is = (is, tt)
zip_push [] (r ∷ rs) text report all is = absurd all
zip_push (t ∷ ts) [] text report all is = absurd all
zip_push (t ∷ ts) (r ∷ rs) text report all is = (all.0, zip_push ts rs text report all.1 is)

push_one : (texts : List (List ℕ)) (reports : List VolumeReport) (o : Option (List ℕ)) (report : VolumeReport) → AllZip IsReport (filter is_good_text texts) reports → FindsReport o (Some report)
    → AllZip IsReport (filter is_good_text (texts ++ option_to_list o)) (reports ++ report ∷ [])
push_one texts reports None report all found = absurd (some_none report found)
push_one texts reports (Some text) report all found =
    let e : filter is_good_text (texts ++ text ∷ []) ≡ filter is_good_text texts ++ text ∷ [] =
    filter-append is_good_text texts (text ∷ []) ∙ ap (λ b. filter is_good_text texts ++ cond b (text ∷ []) []) found.0 in
    subst (λ l. AllZip IsReport l (reports ++ report ∷ [])) (sym e) (zip_push (filter is_good_text texts) reports text report all found.1)

push_none : (texts : List (List ℕ)) (reports : List VolumeReport) (o : Option (List ℕ)) → AllZip IsReport (filter is_good_text texts) reports → FindsReport o None
    → AllZip IsReport (filter is_good_text (texts ++ option_to_list o)) reports
push_none texts reports None all found = subst (λ l. AllZip IsReport (filter is_good_text l) reports) (sym (append-nil texts)) all
push_none texts reports (Some text) all found =
    let e : filter is_good_text (texts ++ text ∷ []) ≡ filter is_good_text texts =
    filter-append is_good_text texts (text ∷ []) ∙ ap (λ b. filter is_good_text texts ++ cond b (text ∷ []) []) found ∙ append-nil (filter is_good_text texts) in
    subst (λ l. AllZip IsReport l reports) (sym e) all

-- One field more, with the report in it
pub collects_more : (text : List ℕ) (left now : Result (List FieldText) WireFault) (reports : List VolumeReport) (field : FieldText) (report : VolumeReport)
    → CollectsSo text left reports → left ≡ with_first field now → FindsReport (text_in 7 field) (Some report) → CollectsSo text now (reports ++ report ∷ [])
collects_more text left now reports field report so first found = record {
  seen = so.seen ++ field ∷ [];
  parts = so.parts ∙ ap (with_seen so.seen) first ∙ with_seen-more so.seen field now;
  collected = subst (λ l. AllZip IsReport (filter is_good_text l) (reports ++ report ∷ [])) (sym (messages_at-more 7 so.seen field)) (push_one (messages_at 7 so.seen) reports (text_in 7 field) report so.collected found);
}

pub collects_other : (text : List ℕ) (left now : Result (List FieldText) WireFault) (reports : List VolumeReport) (field : FieldText)
    → CollectsSo text left reports → left ≡ with_first field now → FindsReport (text_in 7 field) None → CollectsSo text now reports
collects_other text left now reports field so first found = record {
  seen = so.seen ++ field ∷ [];
  parts = so.parts ∙ ap (with_seen so.seen) first ∙ with_seen-more so.seen field now;
  collected = subst (λ l. AllZip IsReport (filter is_good_text l) reports) (sym (messages_at-more 7 so.seen field)) (push_none (messages_at 7 so.seen) reports (text_in 7 field) so.collected found);
}

same_fields : (a b : List FieldText) → (let ok : List FieldText → Result (List FieldText) WireFault = Ok in ok a ≡ ok b) → a ≡ b
same_fields a b e = cc

-- At the end they are all.
pub collects_all : (text : List ℕ) (left : Result (List FieldText) WireFault) (reports : List VolumeReport) → CollectsSo text left reports → left ≡ Ok []
    → (fields : List FieldText) → fields_of text ≡ Ok fields → AreReports fields reports
collects_all text left reports so none fields whole =
    let all = sym (so.parts ∙ ap (with_seen so.seen) none ∙ ap Ok (append-nil so.seen)) ∙ whole in
    subst (λ l. AreReports l reports) (same_fields so.seen fields all) so.collected

-- The first of what is left
pub first_left : (found : Option Field) (field : Field) (old now : Result (List FieldText) WireFault) → found ≡ Some field → TakesFirst (Ok found) old now → old ≡ with_first (field_text field) now
first_left found field old now is first = subst (λ o. TakesFirst (Ok o) old now) is first

good_first : (t : List ℕ) (ts : List (List ℕ)) (b : Bool) → is_good_text t ≡ b → (b && list_all is_good_text ts) ≡ true → (list_all is_good_text ts ≡ true → filter is_good_text ts ≡ ts)
    → cond (is_good_text t) (t ∷ filter is_good_text ts) (filter is_good_text ts) ≡ t ∷ ts
good_first t ts true e k rest = ap (λ b. cond b (t ∷ filter is_good_text ts) (filter is_good_text ts)) e ∙ ap (λ rest. t ∷ rest) (rest k)
good_first t ts false e k rest = cc

-- where each text is good, none is left out
pub all_good : (texts : List (List ℕ)) → list_all is_good_text texts ≡ true → filter is_good_text texts ≡ texts
all_good [] h = refl
all_good (t ∷ ts) h = good_first t ts (is_good_text t) refl h (all_good ts)

last_true : (a b c d e f : Bool) → (a && b && c && d && e && f) ≡ true → f ≡ true
last_true true true true true true f h = h
last_true false b c d e f h = cc
last_true true false c d e f h = cc
last_true true true false d e f h = cc
last_true true true true false e f h = cc
last_true true true true true false f h = cc

none_left : (o : Option WireFault) (good : Bool) (fault : WireFault) → option_or o (cond good None (Some fault)) ≡ None → good ≡ true
none_left None true fault e = refl
none_left None false fault e = cc
none_left (Some f) good fault e = cc

-- the texts of volumes in a text without a fault are good
pub texts_are_good : (fields : List FieldText) → fault_in (Ok fields) ≡ None → list_all is_good_text (messages_at 7 fields) ≡ true
texts_are_good fields none =
    let good = none_left (first_fault (messages_at 7 fields)) (are_good (heartbeat_in fields)) BadVarint none in
    last_true (is_utf8 (last_text 1 fields)) (is_utf8 (last_text 2 fields)) (is_utf8 (last_text 3 fields)) (is_utf8 (last_text 4 fields)) (nat_lt (last_number 5 fields) (2 ^ 32)) (list_all is_good_text (messages_at 7 fields)) good

-- a heartbeat of its parts
pub made_of : (fields : List FieldText) (b : HeartbeatText) (node : Node) (reports : List VolumeReport) (greatest : ℕ) → fault_in (Ok fields) ≡ None → b ≡ heartbeat_in fields → IsNodeOf b node
    → AreReports fields reports → greatest ≡ b.greatest → IsHeartbeat fields (record { node = node; volumes = reports; greatest = greatest })
made_of fields b node reports greatest none is of are same = record {
  id = of.id ∙ ap (λ (b : HeartbeatText). b.id) is;
  public = of.public ∙ ap (λ (b : HeartbeatText). b.public) is;
  data_center = of.data_center ∙ ap (λ (b : HeartbeatText). b.data_center) is;
  rack = of.rack ∙ ap (λ (b : HeartbeatText). b.rack) is;
  room = of.room ∙ ap (λ (b : HeartbeatText). b.room) is;
  greatest = same ∙ ap (λ (b : HeartbeatText). b.greatest) is;
  volumes = subst (λ l. AllZip IsReport l reports) (all_good (messages_at 7 fields) (texts_are_good fields none)) are;
}
