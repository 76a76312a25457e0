-- No item begins another, and what is written is read.
use Rattle.std.proofs.Common.{◌≡◌, ℕ, ◌+◌, ◌^◌, ◌<◌, List, [], ◌++◌, length, drop, replicate, refl, sym, ap, subst, ◌∙◌, append_assoc}
use Rattle.std.proofs.lemmas.List.{drop_at, length-append, length-replicate}
use Rattle.std.proofs.lemmas.Option.{same_Some}
use Rattle.needle.specs.declared.item.Item.{Item}
use Rattle.needle.specs.declared.item.Item.TheVariants.{Live, Gone}
use Rattle.needle.specs.declared.item.Needle.{Needle}
use Rattle.needle.specs.declared.item.ReadItem.{ReadItem}
use Rattle.needle.specs.declared.version.Version.{Version}
use Rattle.needle.specs.declared.version.Version.TheVariants.{V2, V3}
use Rattle.needle.specs.Answer.{IsItem, IsMoment, BeginsWith, kept_moment}
use Rattle.needle.specs.Crc.{checksum}
use Rattle.needle.specs.Item.{unmarked, flags, counted, content, body_of, cookie_of, key_of, item_front, item_text, padding_len}
use Rattle.needle.specs.Layout.{padded}
use Rattle.needle.specs.Reading.{Contents, contents_at, needle_from}
use Rattle.needle.proofs.ContentsRead.{contents_again}
use Rattle.needle.proofs.PartsRead.{made}
use Rattle.needle.proofs.Places.{IsPlaced, padded-is}
use Rattle.needle.proofs.Verdicts.{begun_places, begun_whole}

-- ---- an item by its fields

all_of : Needle → Contents
all_of needle = made needle.body (flags unmarked needle) needle.name needle.mime needle.modified needle.ttl needle.pairs

needle_again : (needle : Needle) → needle_from needle.cookie needle.key (all_of needle) ≡ needle
unfolding all_of
needle_again needle = refl

needle-same : (a b : Needle) → IsItem (Live a) → IsItem (Live b) → a.cookie ≡ b.cookie → a.key ≡ b.key → counted unmarked a ≡ counted unmarked b → a ≡ b
unfolding all_of
needle-same a b fits_a fits_b cookie key same =
    let contents : all_of a ≡ all_of b =
    same_Some _ _ (sym (contents_again unmarked a fits_a) ∙ ap contents_at same ∙ contents_again unmarked b fits_b) in
    sym (needle_again a) ∙ from_same _ _ _ _ _ _ cookie key contents ∙ needle_again b
  where
    from_same : (c c' k k' : ℕ) (m m' : Contents) → c ≡ c' → k ≡ k' → m ≡ m' → needle_from c k m ≡ needle_from c' k' m'
    from_same c c' k k' m m' p q r = cc

counted-some : (needle : Needle) → counted unmarked needle ≡ [] → ⊥
counted-some needle e = cc

item-same : (a b : Item) → IsItem a → IsItem b → cookie_of a ≡ cookie_of b → key_of a ≡ key_of b → content a ≡ content b → a ≡ b
item-same (Live a) (Live b) fits_a fits_b cookie key same = ap Live (needle-same a b fits_a fits_b cookie key same)
item-same (Live a) (Gone c k) fits_a fits_b cookie key same = absurd (counted-some a same)
item-same (Gone c k) (Live b) fits_a fits_b cookie key same = absurd (counted-some b (sym same))
item-same (Gone c k) (Gone d l) fits_a fits_b cookie key same = gone_same c k d l cookie key
  where
    gone_same : (c k d l : ℕ) → c ≡ d → k ≡ l → Gone c k ≡ Gone d l
    gone_same c k d l p q = cc

-- ---- what is written, and anything behind it

abbrev pub read_of : Item → Version → ℕ → ReadItem
read_of item version moment = record { item = item; taken = padded version (length (content item)); moment = moment }

pub begins : (item : Item) (version : Version) (moment : ℕ) (rest : List ℕ) → IsItem item → IsMoment version moment
    → BeginsWith version (item_text item version moment ++ rest) (read_of item version moment)
begins item version moment rest fits kept = record {
  item = fits;
  moment = kept;
  padding = replicate (padding_len (item_front item version moment)) 0;
  rest = rest;
  spelled = append_assoc (item_front item version moment) (replicate (padding_len (item_front item version moment)) 0) rest;
  padded_by = length-replicate (padding_len (item_front item version moment)) 0;
  taken = padded-is (cookie_of item) (key_of item) (content item) (checksum (body_of item)) version moment
      ∙ ap (λ (n : ℕ). length (item_front item version moment) + n) (sym (length-replicate (padding_len (item_front item version moment)) 0));
}

pub apart : (version : Version) (a b : Item) (m n : ℕ) (x y : List ℕ) → IsItem a → IsItem b → IsMoment version m → IsMoment version n
    → item_text a version m ++ x ≡ item_text b version n ++ y → (a ≡ b) × (m ≡ n) × (x ≡ y)
apart version a b m n x y fits_a fits_b kept_a kept_b e =
    let p = begun_places version (item_text a version m ++ x) (read_of a version m) (begins a version m x fits_a kept_a) in
    let q = subst (IsPlaced (cookie_of b) (key_of b) (content b) (checksum (body_of b)) version n) (sym e)
    (begun_places version (item_text b version n ++ y) (read_of b version n) (begins b version n y fits_b kept_b)) in
    let item : a ≡ b = item-same a b fits_a fits_b (sym p.cookie_is ∙ q.cookie_is) (sym p.key_is ∙ q.key_is) (sym p.content_is ∙ q.content_is) in
    let moment : m ≡ n = sym p.moment_is ∙ q.moment_is in
    let text : item_text a version m ≡ item_text b version n = ap (λ (i : Item). item_text i version m) item ∙ ap (item_text b version) moment in
    (item, moment, same_rest (item_text a version m) (item_text b version n) text e)
  where
    same_rest : (s t : List ℕ) → s ≡ t → s ++ x ≡ t ++ y → x ≡ y
    same_rest s t same e = sym (drop_at s x (length t) (ap length same)) ∙ ap (drop (length t)) e ∙ drop_at t y (length t) refl

-- one item alone begins a text, whatever its padding
pub begin_alike : (version : Version) (text : List ℕ) (a b : ReadItem) → BeginsWith version text a → BeginsWith version text b → a ≡ b
begin_alike version text a b begins_a begins_b =
    let p = begun_places version text a begins_a in
    let q = begun_places version text b begins_b in
    let item : a.item ≡ b.item = item-same a.item b.item begins_a.item begins_b.item (sym p.cookie_is ∙ q.cookie_is) (sym p.key_is ∙ q.key_is) (sym p.content_is ∙ q.content_is) in
    let taken : a.taken ≡ b.taken = sym (begun_whole version text a begins_a p.size_is).0 ∙ (begun_whole version text b begins_b q.size_is).0 in
    same_read _ _ _ _ _ _ item taken (sym p.moment_is ∙ q.moment_is)
  where
    same_read : (i j : Item) (t u m n : ℕ) → i ≡ j → t ≡ u → m ≡ n → ◌≡◌ {A = ReadItem} (record { item = i; taken = t; moment = m }) (record { item = j; taken = u; moment = n })
    same_read i j t u m n e f g = cc

kept : (version : Version) (moment : ℕ) → moment < 2 ^ 64 → IsMoment version (kept_moment version moment)
kept V2 moment fits = refl
kept V3 moment fits = fits

item_text-kept : (item : Item) (version : Version) (moment : ℕ) → item_text item version moment ≡ item_text item version (kept_moment version moment)
item_text-kept item V2 moment = refl
item_text-kept item V3 moment = refl

item_text-length : (item : Item) (version : Version) (moment : ℕ) → length (item_text item version moment) ≡ padded version (length (content item))
item_text-length item version moment =
    let before : List ℕ = item_front item version moment in
    length-append before (replicate (padding_len before) 0) ∙ ap (λ (n : ℕ). length before + n) (length-replicate (padding_len before) 0)
    ∙ sym (padded-is (cookie_of item) (key_of item) (content item) (checksum (body_of item)) version moment)

-- what was written, and anything behind it
pub written : (item : Item) (version : Version) (moment : ℕ) (text : List ℕ) → IsItem item → moment < 2 ^ 64 → text ≡ item_text item version moment
    → (rest : List ℕ) → BeginsWith version (text ++ rest) (record { item = item; taken = length text; moment = kept_moment version moment })
written item version moment text fits small is rest =
    let spelled : text ≡ item_text item version (kept_moment version moment) = is ∙ item_text-kept item version moment in
    let len : length text ≡ padded version (length (content item)) = ap length is ∙ item_text-length item version moment in
    subst (λ (n : ℕ). BeginsWith version (text ++ rest) (record { item = item; taken = n; moment = kept_moment version moment })) (sym len)
    (subst (λ (t : List ℕ). BeginsWith version (t ++ rest) (read_of item version (kept_moment version moment))) (sym spelled)
    (begins item version (kept_moment version moment) rest fits (kept version moment small)))
