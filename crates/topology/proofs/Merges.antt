-- Reports of one node laid over those of others.
use Rattle.std.proofs.Common.{◌≡◌, ℕ, zero, suc, ◌<◌, Bool, true, false, cond, List, [], ◌∷◌, take, Ordering, Option, Some, None, length, get_or, is_some, sym, refl, ap, ◌∙◌, arith, Bor}
use Rattle.std.specs.Ordering.{nat_cmp, eq_by_cmp, is_eq}
use Rattle.std.specs.declared.cmp.Ordering.TheVariants.{Less, Equal, Greater}
use Rattle.std.specs.Option.{option_or, option_copied}
use Rattle.std.specs.Cmp.{nat_cmp_total}
use Rattle.std.specs.FinMap.{get, insert, get-insert, get_tied}
use Rattle.std.specs.FinMap.Entries.{find}
use Rattle.topology.specs.Told.{first_report}
use Rattle.topology.specs.Nodes.{Reports}
use Rattle.topology.specs.declared.member.Member.{Member}
use Rattle.topology.specs.declared.report.VolumeReport.{VolumeReport}

-- an entry whose number has none yet
add_step : (found : Option VolumeReport) (b : Bool) (v : VolumeReport) (rest : Option VolumeReport) → (b ≡ true → found ≡ None)
    → option_or (cond b (Some v) found) rest ≡ option_or found (cond b (Some v) rest)
add_step None true v rest h = refl
add_step None false v rest h = refl
add_step (Some w) true v rest h = let e = h refl in cc
add_step (Some w) false v rest h = refl

-- one whose number has
skip_step : (found : Option VolumeReport) (b : Bool) (v : VolumeReport) (rest : Option VolumeReport) → (b ≡ true → is_some found ≡ true)
    → option_or found rest ≡ option_or found (cond b (Some v) rest)
skip_step None true v rest h = let e = h refl in cc
skip_step None false v rest h = refl
skip_step (Some w) b v rest h = refl

tied : (R : Ordering) → is_eq R ≡ true → R ≡ Equal
tied Less h = cc
tied Equal h = refl
tied Greater h = cc

-- an entry that is added
pub added_more : (table : Reports) (number : ℕ) (value : VolumeReport) (all rest : List (ℕ × VolumeReport)) → all ≡ (number, value) ∷ rest → get table number ≡ None
    → (q : ℕ) → option_or (get (insert table number value) q) (find nat_cmp q rest) ≡ option_or (get table q) (find nat_cmp q all)
added_more table number value all rest is none q =
    ap (λ found. option_or found (find nat_cmp q rest)) (get-insert nat_cmp_total table number value q)
    ∙ add_step (get table q) (eq_by_cmp nat_cmp q number) value (find nat_cmp q rest) (λ e. sym (get_tied nat_cmp_total table q number (tied (nat_cmp q number) e)) ∙ none)
    ∙ ap (λ es. option_or (get table q) (find nat_cmp q es)) (sym is)

-- an entry whose number is there
pub added_none : (table : Reports) (number : ℕ) (value : VolumeReport) (all rest : List (ℕ × VolumeReport)) → all ≡ (number, value) ∷ rest → is_some (get table number) ≡ true
    → (q : ℕ) → option_or (get table q) (find nat_cmp q rest) ≡ option_or (get table q) (find nat_cmp q all)
added_none table number value all rest is there q =
    skip_step (get table q) (eq_by_cmp nat_cmp q number) value (find nat_cmp q rest) (λ e. ap is_some (sym (get_tied nat_cmp_total table q number (tied (nat_cmp q number) e))) ∙ there)
    ∙ ap (λ es. option_or (get table q) (find nat_cmp q es)) (sym is)

pub added_all : (found : Option VolumeReport) (q : ℕ) (rest : List (ℕ × VolumeReport)) → rest ≡ [] → found ≡ option_or found (find nat_cmp q rest)
added_all found q rest is = or_none found ∙ ap (λ es. option_or found (find nat_cmp q es)) (sym is)
  where
    or_none : (found : Option VolumeReport) → found ≡ option_or found None
    or_none None = refl
    or_none (Some v) = refl

or_assoc : (a b c : Option VolumeReport) → option_or (option_or a b) c ≡ option_or a (option_or b c)
or_assoc None b c = refl
or_assoc (Some v) b c = refl

or_end : (a : Option VolumeReport) → a ≡ option_or a None
or_end None = refl
or_end (Some v) = refl

report_more : (volume : ℕ) (members : List Member) (k : ℕ) (x : Member) → k < length members → x ≡ get_or members k x
    → first_report volume (take (suc k) members) ≡ option_or (first_report volume (take k members)) (get x.reports volume)
report_more volume [] k x lt is = absurd (omega arith)
report_more volume (m ∷ ms) zero x lt is = sym (or_end (get m.reports volume)) ∙ ap (λ member. get member.reports volume) (sym is)
report_more volume (m ∷ ms) (suc k) x lt is =
    ap (option_or (get m.reports volume)) (report_more volume ms k x (omega arith) is)
    ∙ sym (or_assoc (get m.reports volume) (first_report volume (take k ms)) (get x.reports volume))

-- with one node more
pub first_report_more : (volume : ℕ) (members : List Member) (k n : ℕ) (x : Member) → n ≡ suc k → k < length members → x ≡ get_or members k x
    → first_report volume (take n members) ≡ option_or (first_report volume (take k members)) (get x.reports volume)
first_report_more volume members k n x next lt is = ap (λ n. first_report volume (take n members)) next ∙ report_more volume members k x lt is

-- a reference to a value that is there
pub is_some-copied : {V : Type 0} (found : Option (Bor V)) → is_some (option_copied found) ≡ is_some found
is_some-copied None = refl
is_some-copied (Some v) = refl

pub none_there : {V : Type 0} (found : Option V) → is_some found ≡ false → found ≡ None
none_there None h = refl
none_there (Some v) h = cc
