-- The tests that entries and their parts are the same decide equality.
use Rattle.std.proofs.Common.{◌≡◌, ℕ, List, Option, Some, None, refl, sym, ap}
use Rattle.std.specs.Bool.{Decides, beq}
use Rattle.std.specs.Option.{option_eq}
use Rattle.std.specs.Str.{bytes_eq}
use Rattle.std.specs.Cmp.{booleans_Decides}
use Rattle.std.specs.Cmp.Lexicographic.{pointwise_decides, bytes_decides}
use Rattle.std.proofs.lemmas.Bool.{false≢true}
use Rattle.std.proofs.lemmas.Bool.Decides.{Decides-and, Decides-like, Decides-eqb}
use Rattle.file_id.specs.declared.fid.Fid.{Fid}
use Rattle.entry.specs.declared.chunk.Chunk.{Chunk}
use Rattle.entry.specs.declared.entry.Entry.{Entry}
use Rattle.entry.specs.declared.entry.Attributes.{Attributes}
use Rattle.entry.specs.declared.entry.Kind.{Kind}
use Rattle.entry.specs.declared.entry.Kind.TheVariants.{Directory, File}
use Rattle.entry.specs.Entry.{is_file_kind}
use Rattle.records.specs.Sameness.{is_same_fid, is_same_chunk, is_same_attributes, is_same_entry}

kinds : (a b : Kind) → Decides (beq (is_file_kind a) (is_file_kind b)) (a ≡ b)
kinds Directory Directory = (λ _. refl, λ _. refl)
kinds Directory File = (λ e. absurd (false≢true e), λ e. ap is_file_kind e)
kinds File Directory = (λ e. absurd (false≢true e), λ e. ap is_file_kind (sym e))
kinds File File = (λ _. refl, λ _. refl)

options : (a b : Option (List ℕ)) → Decides (option_eq bytes_eq a b) (a ≡ b)
options None None = (λ _. refl, λ _. refl)
options None (Some y) = (λ e. absurd (false≢true e), λ e. cc)
options (Some x) None = (λ e. absurd (false≢true e), λ e. cc)
options (Some x) (Some y) = Decides-like _ (λ e. ap Some e) (λ e. cc) (bytes_decides x y)

fids : (a b : Fid) → Decides (is_same_fid a b) (a ≡ b)
fids a b =
    Decides-like (is_same_fid a b)
    (λ (h : (a.volume ≡ b.volume) × ((a.key ≡ b.key) × (a.cookie ≡ b.cookie))). λ i. record { volume = h.0 i; key = h.1.0 i; cookie = h.1.1 i })
    (λ e. (ap (λ f. f.volume) e, (ap (λ f. f.key) e, ap (λ f. f.cookie) e)))
    (Decides-and _ _ (Decides-eqb a.volume b.volume) (Decides-and _ _ (Decides-eqb a.key b.key) (Decides-eqb a.cookie b.cookie)))

chunks : (a b : Chunk) → Decides (is_same_chunk a b) (a ≡ b)
chunks a b =
    Decides-like (is_same_chunk a b)
    (λ (h : (a.fid ≡ b.fid) × ((a.offset ≡ b.offset) × ((a.size ≡ b.size) × ((a.modified ≡ b.modified) × ((a.compressed ≡ b.compressed) × ((a.ciphered ≡ b.ciphered) × (a.manifest ≡ b.manifest))))))). λ i. record { fid = h.0 i; offset = h.1.0 i; size = h.1.1.0 i; modified = h.1.1.1.0 i; compressed = h.1.1.1.1.0 i; ciphered = h.1.1.1.1.1.0 i; manifest = h.1.1.1.1.1.1 i })
    (λ e. (ap (λ f. f.fid) e, (ap (λ f. f.offset) e, (ap (λ f. f.size) e, (ap (λ f. f.modified) e, (ap (λ f. f.compressed) e, (ap (λ f. f.ciphered) e, ap (λ f. f.manifest) e)))))))
    (Decides-and _ _ (fids a.fid b.fid)
    (Decides-and _ _ (Decides-eqb a.offset b.offset)
    (Decides-and _ _ (Decides-eqb a.size b.size)
    (Decides-and _ _ (Decides-eqb a.modified b.modified)
    (Decides-and _ _ (booleans_Decides a.compressed b.compressed)
    (Decides-and _ _ (booleans_Decides a.ciphered b.ciphered) (booleans_Decides a.manifest b.manifest)))))))

attributes : (a b : Attributes) → Decides (is_same_attributes a b) (a ≡ b)
attributes a b =
    Decides-like (is_same_attributes a b)
    (λ (h : (a.file_size ≡ b.file_size) × ((a.mtime ≡ b.mtime) × ((a.mode ≡ b.mode) × ((a.uid ≡ b.uid) × ((a.gid ≡ b.gid) × ((a.crtime ≡ b.crtime) × ((a.mime ≡ b.mime) × ((a.ttl_sec ≡ b.ttl_sec) × (a.md5 ≡ b.md5))))))))). λ i. record { file_size = h.0 i; mtime = h.1.0 i; mode = h.1.1.0 i; uid = h.1.1.1.0 i; gid = h.1.1.1.1.0 i; crtime = h.1.1.1.1.1.0 i; mime = h.1.1.1.1.1.1.0 i; ttl_sec = h.1.1.1.1.1.1.1.0 i; md5 = h.1.1.1.1.1.1.1.1 i })
    (λ e. (ap (λ f. f.file_size) e, (ap (λ f. f.mtime) e, (ap (λ f. f.mode) e, (ap (λ f. f.uid) e, (ap (λ f. f.gid) e, (ap (λ f. f.crtime) e, (ap (λ f. f.mime) e, (ap (λ f. f.ttl_sec) e, ap (λ f. f.md5) e)))))))))
    (Decides-and _ _ (Decides-eqb a.file_size b.file_size)
    (Decides-and _ _ (Decides-eqb a.mtime b.mtime)
    (Decides-and _ _ (Decides-eqb a.mode b.mode)
    (Decides-and _ _ (Decides-eqb a.uid b.uid)
    (Decides-and _ _ (Decides-eqb a.gid b.gid)
    (Decides-and _ _ (Decides-eqb a.crtime b.crtime)
    (Decides-and _ _ (bytes_decides a.mime b.mime)
    (Decides-and _ _ (Decides-eqb a.ttl_sec b.ttl_sec) (options a.md5 b.md5)))))))))

pub same_decides : (a b : Entry) → Decides (is_same_entry a b) (a ≡ b)
same_decides a b =
    Decides-like (is_same_entry a b)
    (λ (h : (a.kind ≡ b.kind) × ((a.attributes ≡ b.attributes) × (a.chunks ≡ b.chunks))). λ i. record { kind = h.0 i; attributes = h.1.0 i; chunks = h.1.1 i })
    (λ e. (ap (λ f. f.kind) e, (ap (λ f. f.attributes) e, ap (λ f. f.chunks) e)))
    (Decides-and _ _ (kinds a.kind b.kind) (Decides-and _ _ (attributes a.attributes b.attributes) (pointwise_decides chunks a.chunks b.chunks)))
