-- The parts of a needle that are read are those that were written.
use Rattle.std.proofs.Common.{◌≡◌, ℕ, ◌^◌, ◌<◌, Bool, List, [], ◌++◌, length, Option, Some, None, refl, sym, ap, subst, ◌∙◌, append_assoc}
use Rattle.std.specs.Prelude.{IfSome, is_some, option_map}
use Rattle.std.proofs.lemmas.Option.{same_Some}
use Rattle.needle.specs.Item.{part, short_text, long_text, five_bytes, parts_text}
use Rattle.needle.specs.Reading.{◌>>=◌, Contents, bytes_at, short_at, long_at, five_at, part_at, has_flag, parts_at, needle_from}
use Rattle.needle.proofs.Codecs.{IsBytes, Reads, bind_some, bytes_reads, short_reads, long_reads, five_reads, part_takes, part_again}

-- ---- the parts behind the flags, one by one

abbrev Piece : Type 0 → Type 0
Piece A = Option A × List ℕ

abbrev pub made : List ℕ → ℕ → Option (List ℕ) → Option (List ℕ) → Option ℕ → Option (List ℕ) → Option (List ℕ) → Contents
made body flags name mime modified ttl pairs = record { body = body; flags = flags; name = name; mime = mime; modified = modified; ttl = ttl; pairs = pairs }

abbrev from_ttl : List ℕ → ℕ → Piece (List ℕ) → Piece (List ℕ) → Piece ℕ → Piece (List ℕ) → Option (Contents × List ℕ)
from_ttl body flags name mime modified ttl =
    part_at (has_flag flags 32) long_at ttl.1 >>= λ pairs. Some (made body flags name.0 mime.0 modified.0 ttl.0 pairs.0, pairs.1)

abbrev from_modified : List ℕ → ℕ → Piece (List ℕ) → Piece (List ℕ) → Piece ℕ → Option (Contents × List ℕ)
from_modified body flags name mime modified = part_at (has_flag flags 16) (bytes_at 2) modified.1 >>= from_ttl body flags name mime modified

abbrev from_mime : List ℕ → ℕ → Piece (List ℕ) → Piece (List ℕ) → Option (Contents × List ℕ)
from_mime body flags name mime = part_at (has_flag flags 8) five_at mime.1 >>= from_modified body flags name mime

abbrev from_name : List ℕ → ℕ → Piece (List ℕ) → Option (Contents × List ℕ)
from_name body flags name = part_at (has_flag flags 4) short_at name.1 >>= from_mime body flags name

parts_at-is : (body : List ℕ) (flags : ℕ) (bytes : List ℕ) → parts_at body flags bytes ≡ (part_at (has_flag flags 2) short_at bytes >>= from_name body flags)
unfolding parts_at
parts_at-is body flags bytes = refl

-- What was read of them: these values, which fit, each where its flag is set.
pub record Parted (body : List ℕ) (flags : ℕ) (bytes : List ℕ) (c : Contents) (rest : List ℕ) : Type 0 where
  pub body_is : c.body ≡ body
  pub flags_are : c.flags ≡ flags
  pub spelled : (cookie key : ℕ) → bytes ≡ parts_text (needle_from cookie key c) ++ rest
  pub rest_fits : IsBytes rest
  pub name : IfSome c.name (λ x. length x < 2 ^ 8) × (is_some c.name ≡ has_flag flags 2)
  pub mime : IfSome c.mime (λ x. length x < 2 ^ 8) × (is_some c.mime ≡ has_flag flags 4)
  pub modified : IfSome c.modified (λ x. x < 2 ^ 40) × (is_some c.modified ≡ has_flag flags 8)
  pub ttl : IfSome c.ttl (λ x. length x ≡ 2) × (is_some c.ttl ≡ has_flag flags 16)
  pub pairs : IfSome c.pairs (λ x. length x < 2 ^ 16) × (is_some c.pairs ≡ has_flag flags 32)

pub parts_take : (body : List ℕ) (flags : ℕ) (bytes : List ℕ) (c : Contents) (rest : List ℕ) → IsBytes bytes → parts_at body flags bytes ≡ Some (c, rest) → Parted body flags bytes c rest
parts_take body flags bytes c rest fits e =
    let a = bind_some (part_at (has_flag flags 2) short_at bytes) (from_name body flags) (c, rest) (sym (parts_at-is body flags bytes) ∙ e) in
    let b = bind_some (part_at (has_flag flags 4) short_at a.0.1) (from_mime body flags a.0) (c, rest) a.2 in
    let d = bind_some (part_at (has_flag flags 8) five_at b.0.1) (from_modified body flags a.0 b.0) (c, rest) b.2 in
    let f = bind_some (part_at (has_flag flags 16) (bytes_at 2) d.0.1) (from_ttl body flags a.0 b.0 d.0) (c, rest) d.2 in
    let g = bind_some (part_at (has_flag flags 32) long_at f.0.1) (λ pairs. Some (made body flags a.0.0 b.0.0 d.0.0 f.0.0 pairs.0, pairs.1)) (c, rest) f.2 in
    let t = part_takes short_at short_text (λ x. length x < 2 ^ 8) (has_flag flags 2) bytes a.0.0 a.0.1 short_reads fits a.1 in
    let u = part_takes short_at short_text (λ x. length x < 2 ^ 8) (has_flag flags 4) a.0.1 b.0.0 b.0.1 short_reads t.1 b.1 in
    let v = part_takes five_at five_bytes (λ x. x < 2 ^ 40) (has_flag flags 8) b.0.1 d.0.0 d.0.1 five_reads u.1 d.1 in
    let w = part_takes (bytes_at 2) (λ x. x) (λ x. length x ≡ 2) (has_flag flags 16) d.0.1 f.0.0 f.0.1 (bytes_reads 2) v.1 f.1 in
    let x = part_takes long_at long_text (λ x. length x < 2 ^ 16) (has_flag flags 32) f.0.1 g.0.0 g.0.1 long_reads w.1 g.1 in
    let whole = joined bytes (part short_text a.0.0) a.0.1 (part short_text b.0.0) b.0.1 (part five_bytes d.0.0) d.0.1 (part (λ ttl. ttl) f.0.0) f.0.1 (part long_text g.0.0) g.0.1
    t.0 u.0 v.0 w.0 x.0 in
    let result : Parted body flags bytes (made body flags a.0.0 b.0.0 d.0.0 f.0.0 g.0.0) g.0.1 = record {
      body_is = refl;
      flags_are = refl;
      spelled = λ cookie key. whole;
      rest_fits = x.1;
      name = (t.2, t.3);
      mime = (u.2, u.3);
      modified = (v.2, v.3);
      ttl = (w.2, w.3);
      pairs = (x.2, x.3);
    } in
    subst (λ (p : Contents × List ℕ). Parted body flags bytes p.0 p.1) (same_Some _ _ g.2) result
  where
    joined : (all a a' b b' d d' f f' g g' : List ℕ) → all ≡ a ++ a' → a' ≡ b ++ b' → b' ≡ d ++ d' → d' ≡ f ++ f' → f' ≡ g ++ g'
        → all ≡ (a ++ (b ++ (d ++ (f ++ g)))) ++ g'
    joined all a a' b b' d d' f f' g g' h i j k l =
        let regrouped : (a ++ (b ++ (d ++ (f ++ g)))) ++ g' ≡ a ++ (b ++ (d ++ (f ++ (g ++ g')))) = simp append_assoc in
        h ∙ ap (λ (z : List ℕ). a ++ z) (i ∙ ap (λ (z : List ℕ). b ++ z) (j ∙ ap (λ (z : List ℕ). d ++ z) (k ∙ ap (λ (z : List ℕ). f ++ z) l))) ∙ sym regrouped

step_again : {A : Type 0} (read : List ℕ → Option (A × List ℕ)) (text : A → List ℕ) (Fits : A → Type 0) (is_set : Bool) (x : Option A) (rest : List ℕ)
    → Reads read text Fits → IfSome x Fits → is_set ≡ is_some x → part_at is_set read (part text x ++ rest) ≡ Some (x, rest)
step_again read text Fits is_set x rest reads fits is =
    ap (λ (b : Bool). part_at b read (part text x ++ rest)) is ∙ part_again read text Fits x rest reads fits

-- What was written of them is read again.
pub parts_again : (body : List ℕ) (n : ℕ) (name mime : Option (List ℕ)) (modified : Option ℕ) (ttl pairs : Option (List ℕ)) (rest : List ℕ)
    → IfSome name (λ x. length x < 2 ^ 8) → has_flag n 2 ≡ is_some name → IfSome mime (λ x. length x < 2 ^ 8) → has_flag n 4 ≡ is_some mime
    → IfSome modified (λ x. x < 2 ^ 40) → has_flag n 8 ≡ is_some modified → IfSome ttl (λ x. length x ≡ 2) → has_flag n 16 ≡ is_some ttl
    → IfSome pairs (λ x. length x < 2 ^ 16) → has_flag n 32 ≡ is_some pairs
    → parts_at body n ((part short_text name ++ (part short_text mime ++ (part five_bytes modified ++ (part (λ ttl. ttl) ttl ++ part long_text pairs)))) ++ rest)
    ≡ Some (made body n name mime modified ttl pairs, rest)
parts_again body n name mime modified ttl pairs rest name_fits has_name mime_fits has_mime modified_fits has_modified ttl_fits has_ttl pairs_fits has_pairs =
    let e : List ℕ = part long_text pairs ++ rest in
    let d : List ℕ = part (λ ttl. ttl) ttl ++ e in
    let c : List ℕ = part five_bytes modified ++ d in
    let b : List ℕ = part short_text mime ++ c in
    let a : List ℕ = part short_text name ++ b in
    ap (parts_at body n) (regrouped (part short_text name) (part short_text mime) (part five_bytes modified) (part (λ ttl. ttl) ttl) (part long_text pairs) rest)
    ∙ parts_at-is body n a
    ∙ ap (λ r. r >>= from_name body n) (step_again short_at short_text (λ x. length x < 2 ^ 8) (has_flag n 2) name b short_reads name_fits has_name)
    ∙ ap (λ r. r >>= from_mime body n (name, b)) (step_again short_at short_text (λ x. length x < 2 ^ 8) (has_flag n 4) mime c short_reads mime_fits has_mime)
    ∙ ap (λ r. r >>= from_modified body n (name, b) (mime, c)) (step_again five_at five_bytes (λ x. x < 2 ^ 40) (has_flag n 8) modified d five_reads modified_fits has_modified)
    ∙ ap (λ r. r >>= from_ttl body n (name, b) (mime, c) (modified, d)) (step_again (bytes_at 2) (λ x. x) (λ x. length x ≡ 2) (has_flag n 16) ttl e (bytes_reads 2) ttl_fits has_ttl)
    ∙ ap (λ r. r >>= λ pairs. Some (made body n name mime modified ttl pairs.0, pairs.1)) (step_again long_at long_text (λ x. length x < 2 ^ 16) (has_flag n 32) pairs rest long_reads pairs_fits has_pairs)
  where
    regrouped : (a b c d e r : List ℕ) → (a ++ (b ++ (c ++ (d ++ e)))) ++ r ≡ a ++ (b ++ (c ++ (d ++ (e ++ r))))
    regrouped a b c d e r = simp append_assoc

-- ---- what is told of other data

-- What was read, of this data.
abbrev pub with_body : List ℕ → Contents → Contents
with_body body parts = record parts { body = body }

abbrev pub with_body_first : List ℕ → Contents × List ℕ → Contents × List ℕ
with_body_first body read = (with_body body read.0, read.1)

pub under : {A B C : Type 0} (g : B → C) (r : Option A) (f : A → Option B) (h : A → Option C) → ((x : A) → option_map g (f x) ≡ h x) → option_map g (r >>= f) ≡ (r >>= h)
under g None f h same = refl
under g (Some x) f h same = same x

pub parts-body : (body : List ℕ) (flags : ℕ) (bytes : List ℕ) → option_map (with_body_first body) (parts_at [] flags bytes) ≡ parts_at body flags bytes
parts-body body flags bytes =
    ap (option_map (with_body_first body)) (parts_at-is [] flags bytes)
    ∙ under (with_body_first body) (part_at (has_flag flags 2) short_at bytes) (from_name [] flags) (from_name body flags)
    (λ name. under (with_body_first body) (part_at (has_flag flags 4) short_at name.1) (from_mime [] flags name) (from_mime body flags name)
    (λ mime. under (with_body_first body) (part_at (has_flag flags 8) five_at mime.1) (from_modified [] flags name mime) (from_modified body flags name mime)
    (λ modified. under (with_body_first body) (part_at (has_flag flags 16) (bytes_at 2) modified.1) (from_ttl [] flags name mime modified) (from_ttl body flags name mime modified)
    (λ ttl. under (with_body_first body) (part_at (has_flag flags 32) long_at ttl.1)
    (λ pairs. Some (made [] flags name.0 mime.0 modified.0 ttl.0 pairs.0, pairs.1)) (λ pairs. Some (made body flags name.0 mime.0 modified.0 ttl.0 pairs.0, pairs.1)) (λ pairs. refl)))))
    ∙ sym (parts_at-is body flags bytes)
