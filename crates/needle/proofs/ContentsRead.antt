-- What the size counts is read as it was written.
use Rattle.std.proofs.Common.{◌≡◌, ℕ, suc, ◌^◌, ◌<◌, cond, eqb, List, [], ◌∷◌, ◌++◌, length, get_or, Option, Some, None, refl, sym, ap, subst, ◌∙◌, append_assoc, arith}
use Rattle.std.specs.Int.{w8, w32, from_be_bytes, to_be_bytes}
use Rattle.std.proofs.lemmas.Bool.{eqb-true}
use Rattle.std.proofs.lemmas.Option.{cond_some}
use Rattle.std.proofs.lemmas.List.{append-nil, nil_from_length, length-append}
use Rattle.needle.specs.declared.item.Needle.{Needle}
use Rattle.needle.specs.Item.{Marks, unmarked, flags, parts_text, counted, IsNeedle}
use Rattle.needle.specs.Reading.{◌>>=◌, Contents, bytes_at, body_at, has_flag, parts_at, told_at, contents_at, needle_from}
use Rattle.needle.proofs.Codecs.{IsBytes, bind_some, bytes_reads, body_reads, body_text, IsBody}
use Rattle.needle.proofs.Flagged.{Tells, flags_tell, told_flags}
use Rattle.needle.proofs.PartsRead.{made, Parted, parts_take, parts_again}

abbrev ended : Contents × List ℕ → Option Contents
ended parts = cond (eqb (length parts.1) 0) (Some parts.0) None

abbrev from_flags : List ℕ × List ℕ → List ℕ × List ℕ → Option Contents
from_flags body flags = parts_at body.0 (from_be_bytes w8 flags.0) flags.1 >>= ended

abbrev from_body : List ℕ × List ℕ → Option Contents
from_body body = bytes_at 1 body.1 >>= from_flags body

contents_at-is : (bytes : List ℕ) → contents_at bytes ≡ (body_at bytes >>= from_body)
unfolding contents_at told_at
contents_at-is bytes = refl

one_byte : (bytes : List ℕ) → length bytes ≡ 1 → bytes ≡ from_be_bytes w8 bytes ∷ []
one_byte [] len = absurd (omega arith)
one_byte (x ∷ []) len = refl
one_byte (x ∷ y ∷ bytes) len = absurd (omega arith)

first_small : (flag tail front : List ℕ) → IsBytes front → front ≡ flag ++ tail → length flag ≡ 1 → from_be_bytes w8 flag < 256
first_small [] tail front fits is len = absurd (omega arith)
first_small (x ∷ []) tail front fits is len = subst (λ (l : List ℕ). get_or l 0 0 < 256) is (fits 0)
first_small (x ∷ y ∷ flag) tail front fits is len = absurd (omega arith)

abbrev pub marks_from : ℕ → Marks
marks_from n = record { compressed = has_flag n 1; reserved = has_flag n 64; manifest = has_flag n 128 }

-- marks stand in the flags alone
pub counted-length : (marks : Marks) (needle : Needle) → length (counted marks needle) ≡ length (counted unmarked needle)
counted-length marks needle =
    same (to_be_bytes w32 (length needle.body)) needle.body (flags marks needle) (flags unmarked needle) (parts_text needle)
  where
    same : (a b : List ℕ) (m n : ℕ) (c : List ℕ) → length (a ++ (b ++ (m ∷ c))) ≡ length (a ++ (b ++ (n ∷ c)))
    same a b m n c = rw (length-append a (b ++ (m ∷ c)), length-append b (m ∷ c), length-append a (b ++ (n ∷ c)), length-append b (n ∷ c)) refl

-- What was read, and how it is spelled.
pub record IsCounted (bytes : List ℕ) (c : Contents) (cookie key : ℕ) : Type 0 where
  pub spelled : bytes ≡ counted (marks_from c.flags) (needle_from cookie key c)
  pub fits : IsNeedle (needle_from cookie key c)
  pub flags_are : c.flags ≡ flags (marks_from c.flags) (needle_from cookie key c)

abbrev in_order : ℕ → List ℕ → ℕ → List ℕ → List ℕ
in_order len body flag parts = to_be_bytes w32 len ++ (body ++ (flag ∷ parts))

in_order-same : (len len' : ℕ) (body body' : List ℕ) (flag flag' : ℕ) (parts parts' : List ℕ) → len ≡ len' → body ≡ body' → flag ≡ flag' → parts ≡ parts'
    → in_order len body flag parts ≡ in_order len' body' flag' parts'
in_order-same len len' body body' flag flag' parts parts' a b c d = cc

counted_from : (bytes body front flag tail : List ℕ) (c : Contents) (cookie key : ℕ) → length bytes < 2 ^ 32 → cookie < 2 ^ 32 → key < 2 ^ 64
    → bytes ≡ body_text body ++ front → IsBody body → front ≡ flag ++ tail → length flag ≡ 1 → from_be_bytes w8 flag < 256
    → Parted body (from_be_bytes w8 flag) tail c [] → IsCounted bytes c cookie key
counted_from bytes body front flag tail c cookie key short cookie_fits key_fits first filled second one small p =
    let needle : Needle = needle_from cookie key c in
    let marks : Marks = marks_from c.flags in
    let n : ℕ = from_be_bytes w8 flag in
    let tells : Tells c.flags marks needle = record {
      compressed = refl;
      reserved = refl;
      manifest = refl;
      name = ap (λ (m : ℕ). has_flag m 2) p.flags_are ∙ sym p.name.1;
      mime = ap (λ (m : ℕ). has_flag m 4) p.flags_are ∙ sym p.mime.1;
      modified = ap (λ (m : ℕ). has_flag m 8) p.flags_are ∙ sym p.modified.1;
      ttl = ap (λ (m : ℕ). has_flag m 16) p.flags_are ∙ sym p.ttl.1;
      pairs = ap (λ (m : ℕ). has_flag m 32) p.flags_are ∙ sym p.pairs.1;
    } in
    let flags_are : c.flags ≡ flags marks needle = told_flags c.flags marks needle (subst (λ (m : ℕ). m < 256) (sym p.flags_are) small) tells in
    let tail_is : tail ≡ parts_text needle = p.spelled cookie key ∙ append-nil (parts_text needle) in
    let front_is : front ≡ n ∷ tail = second ∙ ap (λ (f : List ℕ). f ++ tail) (one_byte flag one) in
    let whole : bytes ≡ in_order (length body) body n tail =
    first ∙ append_assoc (to_be_bytes w32 (length body)) body front ∙ ap (λ (f : List ℕ). to_be_bytes w32 (length body) ++ (body ++ f)) front_is in
    let spelled : bytes ≡ counted marks needle =
    whole ∙ in_order-same _ _ _ _ _ _ _ _ (ap length (sym p.body_is)) (sym p.body_is) (sym p.flags_are ∙ flags_are) tail_is in
    let size : length (counted unmarked needle) < 2 ^ 32 = subst (λ (m : ℕ). m < 2 ^ 32) (ap length spelled ∙ counted-length marks needle) short in
    record {
      spelled = spelled;
      fits = record {
        cookie = cookie_fits;
        key = key_fits;
        filled = subst (λ (b : List ℕ). 0 < length b) (sym p.body_is) filled.0;
        name = p.name.0;
        mime = p.mime.0;
        modified = p.modified.0;
        ttl = p.ttl.0;
        pairs = p.pairs.0;
        size = size;
      };
      flags_are = flags_are;
    }

-- What was read is spelled so.
pub contents_take : (bytes : List ℕ) (c : Contents) (cookie key : ℕ) → IsBytes bytes → length bytes < 2 ^ 32 → cookie < 2 ^ 32 → key < 2 ^ 64
    → contents_at bytes ≡ Some c → IsCounted bytes c cookie key
contents_take bytes c cookie key fits short cookie_fits key_fits e =
    let a = bind_some (body_at bytes) from_body c (sym (contents_at-is bytes) ∙ e) in
    behind_body a.0.0 a.0.1 a.1 a.2
  where
    behind_parts : (body front flag tail : List ℕ) (d : Contents) (rest : List ℕ) → (bytes ≡ body_text body ++ front) × IsBytes front × IsBody body
        → (front ≡ flag ++ tail) × IsBytes tail × (length flag ≡ 1) → from_be_bytes w8 flag < 256
        → parts_at body (from_be_bytes w8 flag) tail ≡ Some (d, rest) → ended (d, rest) ≡ Some c → IsCounted bytes c cookie key
    behind_parts body front flag tail d rest t u small parts end =
        let g = cond_some (eqb (length rest) 0) d c end in
        let nothing : rest ≡ [] = nil_from_length rest (eqb-true _ _ g.0) in
        let p = parts_take body (from_be_bytes w8 flag) tail d rest u.1 parts in
        counted_from bytes body front flag tail c cookie key short cookie_fits key_fits t.0 t.2 u.0 u.2 small
        (subst (λ (x : Contents). Parted body (from_be_bytes w8 flag) tail x []) g.1 (subst (λ (r : List ℕ). Parted body (from_be_bytes w8 flag) tail d r) nothing p))

    behind_flag : (body front flag tail : List ℕ) → (bytes ≡ body_text body ++ front) × IsBytes front × IsBody body → bytes_at 1 front ≡ Some (flag, tail)
        → from_flags (body, front) (flag, tail) ≡ Some c → IsCounted bytes c cookie key
    behind_flag body front flag tail t one e =
        let b = bind_some (parts_at body (from_be_bytes w8 flag) tail) ended c e in
        let u = (bytes_reads 1).takes front flag tail t.1 one in
        behind_parts body front flag tail b.0.0 b.0.1 t u (first_small flag tail front t.1 u.0 u.2) b.1 b.2

    behind_body : (body front : List ℕ) → body_at bytes ≡ Some (body, front) → from_body (body, front) ≡ Some c → IsCounted bytes c cookie key
    behind_body body front first e =
        let b = bind_some (bytes_at 1 front) (from_flags (body, front)) c e in
        behind_flag body front b.0.0 b.0.1 (body_reads.takes bytes body front fits first) b.1 b.2

-- What is spelled so is read.
pub contents_again : (marks : Marks) (needle : Needle) → IsNeedle needle
    → contents_at (counted marks needle) ≡ Some (made needle.body (flags marks needle) needle.name needle.mime needle.modified needle.ttl needle.pairs)
contents_again marks needle fits =
    let n : ℕ = flags marks needle in
    let tail : List ℕ = parts_text needle in
    let tells = flags_tell marks needle in
    let short : length needle.body < 2 ^ 32 = shorter needle.body (flags unmarked needle ∷ tail) fits.size in
    let parts : parts_at needle.body n tail ≡ Some (made needle.body n needle.name needle.mime needle.modified needle.ttl needle.pairs, []) =
    ap (parts_at needle.body n) (sym (append-nil tail))
    ∙ parts_again needle.body n needle.name needle.mime needle.modified needle.ttl needle.pairs [] fits.name tells.name fits.mime tells.mime
    fits.modified tells.modified fits.ttl tells.ttl fits.pairs tells.pairs in
    ap contents_at (sym (append_assoc (to_be_bytes w32 (length needle.body)) needle.body (n ∷ tail)))
    ∙ contents_at-is (body_text needle.body ++ (n ∷ tail))
    ∙ ap (λ r. r >>= from_body) (body_reads.again needle.body (n ∷ tail) (fits.filled, short))
    ∙ ap (λ r. r >>= from_flags (needle.body, n ∷ tail)) ((bytes_reads 1).again (n ∷ []) tail refl)
    ∙ ap (λ r. r >>= ended) parts
  where
    shorter : (body more : List ℕ) → suc (suc (suc (suc (length (body ++ more))))) < 2 ^ 32 → length body < 2 ^ 32
    shorter body more size = omega (arith, length-append body more)
