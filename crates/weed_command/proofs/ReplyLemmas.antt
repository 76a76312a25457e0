-- From what a command leaves of a filer to what its request is answered.
use Rattle.std.proofs.Common.{◌≡◌, ℕ, false, List, [], ◌++◌, Option, Some, None, Result, Ok, Err, sym, ap, ◌∙◌, subst, inl, inr, append-nil}
use Rattle.std.specs.Prelude.{◌≢◌, IfSome, MatchOption, IsOkUnless}
use Rattle.weed_base.specs.Path.{IsPath, text_of}
use Rattle.weed_base.specs.PathFaults.{read_fault}
use Rattle.weed_base.specs.declared.path_fault.PathFault.{PathFault}
use Rattle.weed_base.specs.declared.path_fault.PathFault.TheVariants as path_fault
use Rattle.std.specs.Option.{option_map}
use Rattle.weed_base.specs.Files.{Files}
use Rattle.weed_base.specs.Moments.{first_moment, later_moments}
use Rattle.name_core.specs.declared.change.Record.{Record}
use Rattle.name_core.specs.declared.command.Command.TheVariants.{MakeDir}
use Rattle.name_core.specs.declared.command.Refusal.{Refusal}
use Rattle.name_core.specs.Log.{fold, last_time}
use Rattle.name_core.specs.RecordText.{name_of}
use Rattle.name_core.specs.Plan.{Planned, Recorded, Nothing, Refused, plan_of}
use Rattle.weed_command.specs.Answer.{created_text, refused_text}
use Rattle.weed_command.specs.Filer.{IsFiled, TellsFiler, TellsEither, Makes, MakesImages, IsAccepted, added_by}
use Rattle.weed_command.specs.Reply.{Answering, IsReply, planned_reply, reply_to, bad_path, path_text, moments_after, refusal_text}
use Rattle.weed_command.specs.Replied.{IsReadied, RepliesFault, GivesSuch, GivesFor, Gives}
use Rattle.weed_command.specs.declared.answer.Status.TheVariants.{Conflict}
use Rattle.weed_command.specs.declared.plain_filer.PlainFiler.{PlainFiler}
use Rattle.weed_command.specs.declared.plain_filer.MakeFault.{MakeFault}
use Rattle.weed_command.specs.declared.plain_filer.MakeFault.TheVariants as fault
use Rattle.weed_command.specs.declared.reply.Reply.{Reply}
use Rattle.weed_command.specs.declared.reply.ReplyFault.{ReplyFault}
use Rattle.weed_command.specs.declared.reply.ReplyFault.TheVariants.{DiskFault, Memory}

-- The plan of a directory over records, at a moment
abbrev pub plan_for : List (List ℕ) → List Record → ℕ → Planned
plan_for path records moment = plan_of (fold records) (MakeDir path) moment (last_time records)

-- What a told disk has of a command's clause
abbrev pub MakesTold : Option Files → Option Files → PlainFiler → PlainFiler → List (List ℕ) → ℕ → Result (Unit {0}) MakeFault → Type 0
MakesTold old new filer filer' path moment result =
    IfSome old (λ files. (records : List Record) → IsFiled files filer records → Makes (plan_for path records moment) records new filer' result)

made_told : (old new : Option Files) (filer filer' : PlainFiler) (path : List (List ℕ)) (moment : ℕ) (result : Result (Unit {0}) MakeFault)
    → MakesTold old new filer filer' path moment result → (files : Files) (records : List Record) → old ≡ Some files → IsFiled files filer records
    → Makes (plan_for path records moment) records new filer' result
made_told old new filer filer' path moment result made files records told filed =
    subst (λ o. MakesTold o new filer filer' path moment result) told made records filed

-- The moment that was given, and those that are left
pub record Asked (clock later : Option (List ℕ)) (moment : ℕ) : Type 0 where
  pub moment_is : IfSome clock (λ coming. moment ≡ first_moment coming)
  pub later_is : later ≡ option_map later_moments clock

moment_told : (clock later : Option (List ℕ)) (moment : ℕ) → Asked clock later moment → (moments : List ℕ) → clock ≡ Some moments
    → (moment ≡ first_moment moments) × (later ≡ Some (later_moments moments))
moment_told clock later moment asked moments told =
    (subst (λ o. IfSome o (λ coming. moment ≡ first_moment coming)) told asked.moment_is, asked.later_is ∙ ap (option_map later_moments) told)

-- What it has of the clause on the images
abbrev pub ImagesTold : Option Files → PlainFiler → List (List ℕ) → ℕ → (List Record → List Record → Type 0) → (List Record → List Record → Type 0) → Result (Unit {0}) MakeFault → Type 0
ImagesTold old filer path moment Moves Tears result =
    (files : Files) (records : List Record) → old ≡ Some files → IsFiled files filer records → MakesImages (plan_for path records moment) (Moves records) (Tears records) records result

accepted_says : (plan : Planned) (path : List (List ℕ)) (records : List Record) (moments : List ℕ) (new : Option Files) (later : Option (List ℕ)) (filer : PlainFiler) (reply : Reply) (Moves : List Record → Type 0)
    → IsAccepted plan → TellsFiler new filer (records ++ added_by plan)
    → reply.answer ≡ created_text (name_of path) → reply.closes ≡ false → later ≡ Some (later_moments moments) → Moves (records ++ added_by plan)
    → IsReadied reply (planned_reply path plan) × TellsFiler new filer (records ++ (planned_reply path plan).added) × (later ≡ Some (moments_after (planned_reply path plan) moments))
    × Moves (records ++ (planned_reply path plan).added)
accepted_says (Recorded made) path records moments new later filer reply Moves accepted told answer closes left moves = (record { answer = answer; closes = closes }, told, left, moves)
accepted_says Nothing path records moments new later filer reply Moves accepted told answer closes left moves = (record { answer = answer; closes = closes }, told, left, moves)
accepted_says (Refused refusal) path records moments new later filer reply Moves accepted told answer closes left moves = absurd accepted

pub gives_made : (old new : Option Files) (clock later : Option (List ℕ)) (filer filer' : PlainFiler) (path : List (List ℕ)) (moment : ℕ) (done : Unit {0}) (reply : Reply) (Moves Tears : List Record → List Record → Type 0)
    → MakesTold old new filer filer' path moment (Ok done) → ImagesTold old filer path moment Moves Tears (Ok done) → Asked clock later moment
    → reply.answer ≡ created_text (name_of path) → reply.closes ≡ false
    → (files : Files) (moments : List ℕ) (records : List Record) → old ≡ Some files → clock ≡ Some moments → IsFiled files filer records
    → GivesFor path records moments (Moves records) (Tears records) new later filer' (Ok reply)
gives_made old new clock later filer filer' path moment done reply Moves Tears made images asked answer closes files moments records told coming filed =
    let at = moment_told clock later moment asked moments coming in
    let makes = made_told old new filer filer' path moment (Ok done) made files records told filed in
    let plan = plan_for path records moment in
    let says = accepted_says plan path records moments new later filer' reply (Moves records) makes.0 makes.1 answer closes at.1 (images files records told filed) in
    (planned_reply path plan, ap (λ m. reply_to records m path) at.0, says.0, says.1, says.2, says.3)

pub gives_refused : (old new : Option Files) (clock later : Option (List ℕ)) (filer filer' : PlainFiler) (path : List (List ℕ)) (moment : ℕ) (refusal : Refusal) (reply : Reply) (Moves Tears : List Record → List Record → Type 0)
    → MakesTold old new filer filer' path moment (Err (fault.Refused refusal)) → ImagesTold old filer path moment Moves Tears (Err (fault.Refused refusal)) → Asked clock later moment
    → reply.answer ≡ refused_text Conflict (refusal_text refusal) false → reply.closes ≡ false
    → (files : Files) (moments : List ℕ) (records : List Record) → old ≡ Some files → clock ≡ Some moments → IsFiled files filer records
    → GivesFor path records moments (Moves records) (Tears records) new later filer' (Ok reply)
gives_refused old new clock later filer filer' path moment refusal reply Moves Tears made images asked answer closes files moments records told coming filed =
    let at = moment_told clock later moment asked moments coming in
    let makes = made_told old new filer filer' path moment (Err (fault.Refused refusal)) made files records told filed in
    let says = planned_reply path (Refused refusal) in
    let is : says ≡ reply_to records (first_moment moments) path = ap (planned_reply path) (sym makes.0) ∙ ap (λ m. reply_to records m path) at.0 in
    (says, is, record { answer = answer; closes = closes }, subst (TellsFiler new filer') (sym (append-nil records)) makes.1, at.1, subst (Moves records) (sym (append-nil records)) (images files records told filed))

pub gives_no_memory : (old new : Option Files) (clock later : Option (List ℕ)) (filer filer' : PlainFiler) (path : List (List ℕ)) (moment : ℕ) (Moves Tears : List Record → List Record → Type 0)
    → MakesTold old new filer filer' path moment (Err fault.Memory) → ImagesTold old filer path moment Moves Tears (Err fault.Memory) → Asked clock later moment
    → (files : Files) (moments : List ℕ) (records : List Record) → old ≡ Some files → clock ≡ Some moments → IsFiled files filer records
    → GivesFor path records moments (Moves records) (Tears records) new later filer' (Err Memory)
gives_no_memory old new clock later filer filer' path moment Moves Tears made images asked files moments records told coming filed =
    let at = moment_told clock later moment asked moments coming in
    (made_told old new filer filer' path moment (Err fault.Memory) made files records told filed, inr at.1, images files records told filed)

pub refused_no_memory : (old new : Option Files) (clock later : Option (List ℕ)) (filer filer' : PlainFiler) (path : List (List ℕ)) (moment : ℕ) (refusal : Refusal) (Moves Tears : List Record → List Record → Type 0)
    → MakesTold old new filer filer' path moment (Err (fault.Refused refusal)) → ImagesTold old filer path moment Moves Tears (Err (fault.Refused refusal)) → Asked clock later moment
    → (files : Files) (moments : List ℕ) (records : List Record) → old ≡ Some files → clock ≡ Some moments → IsFiled files filer records
    → GivesFor path records moments (Moves records) (Tears records) new later filer' (Err Memory)
refused_no_memory old new clock later filer filer' path moment refusal Moves Tears made images asked files moments records told coming filed =
    let at = moment_told clock later moment asked moments coming in
    ((made_told old new filer filer' path moment (Err (fault.Refused refusal)) made files records told filed).1, inr at.1, images files records told filed)

fault_says : (plan : Planned) (path : List (List ℕ)) (records : List Record) (moments : List ℕ) (new : Option Files) (later : Option (List ℕ)) (Tears : List Record → Type 0)
    → added_by plan ≢ [] → TellsEither new records (added_by plan) → later ≡ Some (later_moments moments) → Tears (records ++ added_by plan)
    → ((planned_reply path plan).added ≢ []) × TellsEither new records (planned_reply path plan).added × (later ≡ Some (moments_after (planned_reply path plan) moments)) × Tears (records ++ (planned_reply path plan).added)
fault_says (Recorded made) path records moments new later Tears adds told left tears = (adds, told, left, tears)
fault_says Nothing path records moments new later Tears adds told left tears = (adds, told, left, tears)
fault_says (Refused refusal) path records moments new later Tears adds told left tears = (adds, told, left, tears)

pub gives_disk_fault : (old new : Option Files) (clock later : Option (List ℕ)) (filer filer' : PlainFiler) (path : List (List ℕ)) (moment : ℕ) (Moves Tears : List Record → List Record → Type 0)
    → MakesTold old new filer filer' path moment (Err fault.DiskFault) → ImagesTold old filer path moment Moves Tears (Err fault.DiskFault) → Asked clock later moment
    → (files : Files) (moments : List ℕ) (records : List Record) → old ≡ Some files → clock ≡ Some moments → IsFiled files filer records
    → GivesFor path records moments (Moves records) (Tears records) new later filer' (Err DiskFault)
gives_disk_fault old new clock later filer filer' path moment Moves Tears made images asked files moments records told coming filed =
    let at = moment_told clock later moment asked moments coming in
    let makes = made_told old new filer filer' path moment (Err fault.DiskFault) made files records told filed in
    let plan = plan_for path records moment in
    let says = fault_says plan path records moments new later (Tears records) makes.0 makes.1 at.1 (images files records told filed) in
    (planned_reply path plan, ap (λ m. reply_to records m path) at.0, says.0, says.1, says.2, says.3)

-- What holds of an answering holds in another's words.
such_weaker : (Such Other : Answering → Type 0) (Moves Tears : List Record → Type 0) (log : List Record) (moments : List ℕ) (files : Option Files) (later : Option (List ℕ)) (filer : PlainFiler) (result : Result Reply ReplyFault)
    → ((says : Answering) → Such says → Other says) → GivesSuch Such Moves Tears log moments files later filer result → GivesSuch Other Moves Tears log moments files later filer result
such_weaker Such Other Moves Tears log moments files later filer (Ok reply) weaker gives = (gives.0, weaker gives.0 gives.1, gives.2, gives.3, gives.4, gives.5)
such_weaker Such Other Moves Tears log moments files later filer (Err Memory) weaker gives = gives
such_weaker Such Other Moves Tears log moments files later filer (Err DiskFault) weaker gives = (gives.0, weaker gives.0 gives.1, gives.2, gives.3, gives.4, gives.5)

-- What a target's path is answered is what the target is answered.
path_says : (fault : Option PathFault) (text : List ℕ) (path : List (List ℕ)) (read : Result (List (List ℕ)) PathFault) (log : List Record) (moment : ℕ) (says : Answering)
    → read ≡ Ok path → MatchOption fault (IsOkUnless read path_fault.Memory) (λ f. read ≡ Err f) → IsPath path → text ≡ text_of path → says ≡ reply_to log moment path
    → MatchOption fault ((path : List (List ℕ)) × IsPath path × (text ≡ text_of path) × (says ≡ reply_to log moment path)) (λ f. says ≡ bad_path f)
path_says None text path read log moment says is refused valid spelled same = (path, valid, spelled, same)
path_says (Some f) text path read log moment says is refused valid spelled same = let told : Ok path ≡ Err f = sym is ∙ refused in cc

pub gives_target : (target : List ℕ) (path : List (List ℕ)) (read : Result (List (List ℕ)) PathFault) (Moves Tears : List Record → Type 0) (log : List Record) (moments : List ℕ) (files : Option Files) (later : Option (List ℕ)) (filer : PlainFiler) (result : Result Reply ReplyFault)
    → read ≡ Ok path → MatchOption (read_fault (path_text target)) (IsOkUnless read path_fault.Memory) (λ f. read ≡ Err f) → IsPath path → path_text target ≡ text_of path
    → GivesFor path log moments Moves Tears files later filer result → Gives log moments target Moves Tears files later filer result
gives_target target path read Moves Tears log moments files later filer result is refused valid spelled gives =
    such_weaker (λ says. says ≡ reply_to log (first_moment moments) path) (IsReply log (first_moment moments) target) Moves Tears log moments files later filer result
    (λ says same. path_says (read_fault (path_text target)) (path_text target) path read log (first_moment moments) says is refused valid spelled same) gives

fault_is : (found : Option PathFault) (fault : PathFault) (read : Result (List (List ℕ)) PathFault) (text : List ℕ) (log : List Record) (moment : ℕ)
    → read ≡ Err fault → fault ≢ path_fault.Memory → MatchOption found (IsOkUnless read path_fault.Memory) (λ f. read ≡ Err f)
    → MatchOption found ((path : List (List ℕ)) × IsPath path × (text ≡ text_of path) × (bad_path fault ≡ reply_to log moment path)) (λ f. bad_path fault ≡ bad_path f)
fault_is None fault read text log moment is other refused =
    let unless : IsOkUnless {T = List (List ℕ)} (Err fault) path_fault.Memory = subst (λ (r : Result (List (List ℕ)) PathFault). IsOkUnless r path_fault.Memory) is refused in
    absurd (other unless)
fault_is (Some f) fault read text log moment is other refused = let told : Err fault ≡ Err f = sym is ∙ refused in let same : fault ≡ f = cc in ap bad_path same

-- A target that is no path
pub gives_fault : (target : List ℕ) (fault : PathFault) (read : Result (List (List ℕ)) PathFault) (Moves Tears : List Record → Type 0) (log : List Record) (moments : List ℕ) (told old : Option Files) (clock later : Option (List ℕ)) (filer : PlainFiler) (result : Result Reply ReplyFault)
    → read ≡ Err fault → MatchOption (read_fault (path_text target)) (IsOkUnless read path_fault.Memory) (λ f. read ≡ Err f)
    → RepliesFault fault result → (files : Files) → told ≡ Some files → IsFiled files filer log → later ≡ Some moments → Moves log
    → Gives log moments target Moves Tears told later filer result
gives_fault target fault read Moves Tears log moments told old clock later filer (Ok reply) is refused replies files there filed left moves = (
  bad_path fault,
  fault_is (read_fault (path_text target)) fault read (path_text target) log (first_moment moments) is replies.1 refused,
  replies.0,
  subst (λ o. TellsFiler o filer (log ++ [])) (sym there) (subst (IsFiled files filer) (sym (append-nil log)) filed),
  left,
  subst Moves (sym (append-nil log)) moves,
)
gives_fault target fault read Moves Tears log moments told old clock later filer (Err Memory) is refused replies files there filed left moves =
    (subst (λ o. TellsFiler o filer log) (sym there) filed, inl left, moves)
gives_fault target fault read Moves Tears log moments told old clock later filer (Err DiskFault) is refused replies files there filed left moves = absurd replies
