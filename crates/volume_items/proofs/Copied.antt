-- Bytes of one file behind another one's end.
use Rattle.std.proofs.Common.{◌≡◌, ◌≢◌, ℕ, ◌+◌, ◌-◌, ◌≤◌, List, [], ◌++◌, length, take, drop, refl, sym, ap, subst, ◌∙◌, arith, Option, Some, None}
use Rattle.std.specs.Prelude.{IfSome, unwrap_or}
use Rattle.std.proofs.lemmas.List.{append-nil, drop-drop, length-drop, length-take}
use Rattle.std.proofs.Math.Seq.{take-add}
use Rattle.weed_base.specs.Files.{Files, content, BothTold}
use Rattle.volume_items.specs.Growing.{Appends, EndsAt}
use Rattle.volume_items.specs.Copying.{Copies, IsLost}
use Rattle.volume_items.specs.declared.fault.VolumeFault.{VolumeFault}
use Rattle.volume_items.specs.declared.fault.VolumeFault.TheVariants.{DiskFault, Broken, AlreadyThere, NotThere, BadSuper, NotHeld, WrongCookie, EmptyData, TooLarge, VolumeFull, ReadOnly, NoVacuum, InVacuum, RevisionAtEnd, Damaged, Memory}
use Rattle.volume_items.specs.Changes.{ChangesOnly}
use Rattle.volume_items.specs.Window.{Stretch, IsOf}
use Rattle.volume_items.proofs.Growing.{appends_joined, ends_behind}
use Rattle.volume_items.proofs.Named.{joined}
use Rattle.volume_items.proofs.Summed.{front_from}
use Rattle.volume_items.proofs.Told.{both_twice}

-- ---- one piece

both_at : (R S : Files → Files → Type 0) (files : Files) (new : Option Files) → BothTold R (Some files) new → ((b : Files) → R files b → S files b) → BothTold S (Some files) new
both_at R S files None both weaker = absurd both
both_at R S files (Some b) both weaker = weaker b both

both_none : (R S : Files → Files → Type 0) (new : Option Files) → BothTold R None new → BothTold S None new
both_none R S None both = tt
both_none R S (Some b) both = absurd both

pub told_copied : (told mid new : Option Files) (from to bytes piece : List ℕ) (stretch : Stretch) (at taken count : ℕ) → mid ≡ told
    → IfSome told (λ files. IsOf (content files from) stretch) → stretch.at ≤ at → at ≤ stretch.at + length stretch.held
    → bytes ≡ drop (at - stretch.at) stretch.held → taken ≤ length bytes → piece ≡ take taken bytes → count ≡ taken
    → BothTold (Appends to piece) mid new → BothTold (Copies from to at count) told new
told_copied None mid new from to bytes piece stretch at taken count same of ahead reached is few piece_is count_is appends =
    both_none (Appends to piece) (Copies from to at count) new (subst (λ o. BothTold (Appends to piece) o new) same appends)
told_copied (Some files) mid new from to bytes piece stretch at taken count same of ahead reached is few piece_is count_is appends =
    let long = length-drop (at - stretch.at) stretch.held in
    let all : piece ≡ take count (drop at (content files from)) =
    piece_is ∙ ap (take taken) is ∙ front_from (content files from) stretch at taken of ahead reached (omega (arith, few, ap length is, long)) ∙ ap (λ (n : ℕ). take n (drop at (content files from))) (sym count_is) in
    both_at (Appends to piece) (Copies from to at count) files new (subst (λ o. BothTold (Appends to piece) o new) same appends)
    (λ b grown. subst (λ l. Appends to l files b) all grown)

-- ---- piece by piece

content_same : (from to : List ℕ) (old new : Files) → from ≢ to → ChangesOnly to old new → content new from ≡ content old from
content_same from to old new apart only = ap (λ (o : Option (List ℕ)). unwrap_or o []) (only from apart)

nothing_copied : (from to : List ℕ) (at end : ℕ) (files : Files) → EndsAt to end files → Copies from to at 0 files files
nothing_copied from to at end files ends = record {
  there = ends.there ∙ ap Some (sym (append-nil (content files to) ∙ ap (λ (o : Option (List ℕ)). unwrap_or o []) ends.there));
  others = λ other differs. refl;
}

pub told_nothing : (from to : List ℕ) (at end none : ℕ) (told : Option Files) → none ≡ 0 → IfSome told (EndsAt to end) → BothTold (Copies from to at none) told told
told_nothing from to at end none None is ends = tt
told_nothing from to at end none (Some files) is ends = subst (λ (n : ℕ). Copies from to at n files files) (sym is) (nothing_copied from to at end files ends)

copies_joined : (from to : List ℕ) (at done more : ℕ) (a b c : Files) → from ≢ to → Copies from to at done a b → Copies from to (at + done) more b c → Copies from to at (done + more) a c
copies_joined from to at done more a b c apart first second =
    let text = content a from in
    let same : take more (drop (at + done) (content b from)) ≡ take more (drop done (drop at text)) =
    ap (λ (l : List ℕ). take more (drop (at + done) l)) (content_same from to a b apart first.others) ∙ ap (take more) (sym (drop-drop done at text)) in
    subst (λ l. Appends to l a c) (ap (λ (l : List ℕ). take done (drop at text) ++ l) same ∙ sym (take-add done more (drop at text)))
    (appends_joined to (take done (drop at text)) (take more (drop (at + done) (content b from))) a b c first second)

pub told_joined : (from to : List ℕ) (at done more all : ℕ) (a b c : Option Files) → from ≢ to → all ≡ done + more → BothTold (Copies from to at done) a b
    → BothTold (Copies from to (at + done) more) b c → BothTold (Copies from to at all) a c
told_joined from to at done more all a b c apart sum first second =
    both_twice (Copies from to at done) (Copies from to (at + done) more) (Copies from to at all) a b c first second
    (λ x y z one two. subst (λ (n : ℕ). Copies from to at n x z) (sym sum) (copies_joined from to at done more x y z apart one two))

pub told_only_joined : (from to : List ℕ) (at count : ℕ) (a b c : Option Files) → BothTold (Copies from to at count) a b → BothTold (ChangesOnly to) b c → BothTold (ChangesOnly to) a c
told_only_joined from to at count a b c first second =
    both_twice (Copies from to at count) (ChangesOnly to) (ChangesOnly to) a b c first second (λ x y z one two. joined to x y z one.others two)

-- what the file copied from tells, before and after
pub told_same : (from to : List ℕ) (at count : ℕ) (P : List ℕ → Type 0) (a b : Option Files) → from ≢ to → BothTold (Copies from to at count) a b
    → IfSome a (λ files. P (content files from)) → IfSome b (λ files. P (content files from))
told_same from to at count P None None apart both fact = tt
told_same from to at count P None (Some b) apart both fact = absurd both
told_same from to at count P (Some a) None apart both fact = absurd both
told_same from to at count P (Some a) (Some b) apart both fact = subst P (sym (content_same from to a b apart both.others)) fact

pub told_back : (from to : List ℕ) (at count : ℕ) (P : List ℕ → Type 0) (a b : Option Files) → from ≢ to → BothTold (Copies from to at count) a b
    → IfSome b (λ files. P (content files from)) → IfSome a (λ files. P (content files from))
told_back from to at count P None None apart both fact = tt
told_back from to at count P None (Some b) apart both fact = tt
told_back from to at count P (Some a) None apart both fact = absurd both
told_back from to at count P (Some a) (Some b) apart both fact = subst P (content_same from to a b apart both.others) fact

copied_len : (from : List ℕ) (at count len : ℕ) (files : Files) → count ≤ len → at + len ≤ length (content files from) → length (take count (drop at (content files from))) ≡ count
copied_len from at count len files few there = omega (arith, length-take count (drop at (content files from)), length-drop at (content files from), few, there)

pub told_ends_copied : (from to : List ℕ) (at end count len : ℕ) (a b : Option Files) → count ≤ len → IfSome a (λ files. at + len ≤ length (content files from))
    → IfSome a (EndsAt to end) → BothTold (Copies from to at count) a b → IfSome b (EndsAt to (end + count))
told_ends_copied from to at end count len None None few there ends both = tt
told_ends_copied from to at end count len None (Some b) few there ends both = absurd both
told_ends_copied from to at end count len (Some a) None few there ends both = absurd both
told_ends_copied from to at end count len (Some a) (Some b) few there ends both =
    subst (λ (n : ℕ). EndsAt to (end + n) b) (copied_len from at count len a few there) (ends_behind to (take count (drop at (content a from))) end a b ends both)

-- ---- what was lost

none_back : (R : Files → Files → Type 0) (a b : Option Files) → BothTold R a b → b ≡ None → a ≡ None
none_back R None b both none = refl
none_back R (Some a) None both none = absurd both
none_back R (Some a) (Some b) both none = absurd (never none)
  where
    never : Some b ≡ None → ⊥
    never e = cc

pub lost_back : (R : Files → Files → Type 0) (a b : Option Files) → BothTold R a b → (fault : VolumeFault) → IsLost b fault → IsLost a fault
lost_back R a b both DiskFault lost = tt
lost_back R a b both Broken lost = absurd lost
lost_back R a b both AlreadyThere lost = absurd lost
lost_back R a b both NotThere lost = absurd lost
lost_back R a b both (BadSuper fault) lost = absurd lost
lost_back R a b both NotHeld lost = absurd lost
lost_back R a b both (WrongCookie held) lost = absurd lost
lost_back R a b both EmptyData lost = absurd lost
lost_back R a b both (TooLarge len) lost = absurd lost
lost_back R a b both (VolumeFull end) lost = absurd lost
lost_back R a b both ReadOnly lost = absurd lost
lost_back R a b both NoVacuum lost = absurd lost
lost_back R a b both InVacuum lost = absurd lost
lost_back R a b both RevisionAtEnd lost = absurd lost
lost_back R a b both (Damaged at stored computed) lost = none_back R a b both lost
lost_back R a b both Memory lost = absurd lost
