-- What the looks at a job's inputs tell of its stamps.
use Rattle.std.proofs.Common.{◌≡◌, ◌≢◌, ℕ, Bool, true, false, List, [], ◌∷◌, length, refl, sym, ap, subst, ◌∙◌, Option, Some, None, Ok, arith, true≢false}
use Rattle.std.specs.Prelude.{option_map, if◌then◌else◌}
use Rattle.std.proofs.lemmas.List.{append-nil}
use Rattle.std.proofs.lemmas.Option.{same_Some}
use Rattle.smk_base.specs.declared.sum.Sum.{Sum as Digest}
use Rattle.smk_world.specs.declared.event.Besides.{Besides}
use Rattle.smk_world.specs.declared.event.Call.{Call}
use Rattle.smk_world.specs.declared.event.Call.TheVariants.{Looked}
use Rattle.smk_world.specs.declared.event.Event.{Event}
use Rattle.smk_world.specs.declared.event.Node.{Node}
use Rattle.smk_world.specs.declared.event.Node.TheVariants.{Regular, Directory}
use Rattle.smk_world.specs.declared.event.NodeState.{NodeState}
use Rattle.smk_world.specs.declared.event.NodeState.TheVariants.{Owned, Known}
use Rattle.smk_world.specs.declared.event.Stat.TheVariants.{File}
use Rattle.smk_world.specs.World.{World, run, reading, in_paths}
use Rattle.smk_world.specs.Calls.{Lets, StatIs}
use Rattle.smk_world.specs.Runs.{Follows}
use Rattle.smk_world.specs.Trees.{Path, Act}
use Rattle.smk_record.specs.declared.record.Stamp.{Stamp}
use Rattle.smk_record.specs.declared.record.Stamp.TheVariants.{Time, Sum, Made}
use Rattle.smk_store.specs.Images.{Content, content_of}
use Rattle.smk_store.specs.Soundness.{Outside}
use Rattle.smk_store.specs.Trust.{content_stamp, is_summed, sum_of}
use Rattle.smk_digest.specs.Digests.{sum_in}
use Rattle.smk_run.specs.Digesting.{IsDigested, AreDigested, with_sum}
use Rattle.smk_run.specs.Stamps.{Serials, IsStamped, AreStamped}
use Rattle.smk_run.specs.Turns.{Course, Unbegun, Unstarted, Unclosed, Closed, Turn, found, HasGone, HasStampedAnd, IsTurnBy, is_begun}
use Rattle.smk_run.proofs.Calls.{stamped_each}
use Rattle.smk_safe.proofs.Done.{follows_split}
use Rattle.smk_safe.proofs.Joining.{IsLooking, lookings, looks_by, looks_same}

-- the stamp of a product is its serial; that of a source is the stamp of the file that stands in this world
abbrev pub IsTold : World → Option ℕ → Path → Stamp → Type 0
IsTold w (Some serial) p s = s ≡ Made serial
IsTold w None p s = (f : Content) → content_of (reading (w.nodes p)) ≡ Some f → s ≡ content_stamp f

-- one for each input, in order
abbrev pub AreTold : World → Serials → List Path → List Stamp → Type 0
AreTold w made [] [] = Unit {0}
AreTold w made [] (s ∷ ss) = ⊥
AreTold w made (p ∷ ps) [] = ⊥
AreTold w made (p ∷ ps) (s ∷ ss) = IsTold w (made p) p s × AreTold w made ps ss

known_not_owned : (n : Option Node) (b : Besides) → Known n b ≡ Owned → ⊥
known_not_owned n b e = cc

none_some : {f : Content} → None ≡ Some f → ⊥
none_some e = cc

same_file : {a b : ℕ} {x y : Bool} → File a x ≡ File b y → a ≡ b
same_file e = cc

-- the digest that was told of a file of these bytes is that in its stamp
with_digest : (bytes : List ℕ) (time : ℕ) (read_only : Bool) → with_sum (sum_in (Some (Regular bytes time read_only))) (Time time) ≡ content_stamp (record { bytes = bytes; time = time; read_only = read_only })
with_digest bytes time read_only = go (is_summed bytes)
  where
    go : (b : Bool) → with_sum (option_map sum_of (if b then Some bytes else None)) (Time time) ≡ (if b then Sum time (sum_of bytes) else Time time)
    go true = refl
    go false = refl

-- the time that was seen, and the digest that was told, are those of the file that stands there
told_node : (n : NodeState) (time : ℕ) (read_only : Bool) (sum : Option Digest) (f : Content) → StatIs (File time read_only) n → (n ≢ Owned → sum ≡ sum_in (reading n)) → content_of (reading n) ≡ Some f
    → with_sum sum (Time time) ≡ content_stamp f
told_node Owned time read_only sum f stat told is = absurd (none_some is)
told_node (Known None b) time read_only sum f stat told is = absurd (none_some is)
told_node (Known (Some Directory) b) time read_only sum f stat told is = absurd (none_some is)
told_node (Known (Some (Regular bytes t flag)) b) time read_only sum f stat told is =
    ap (λ x. with_sum x (Time time)) (told (known_not_owned (Some (Regular bytes t flag)) b))
    ∙ ap (λ x. with_sum (sum_in (Some (Regular bytes t flag))) (Time x)) (same_file stat)
    ∙ with_digest bytes t flag ∙ ap content_stamp (same_Some (record { bytes = bytes; time = t; read_only = flag }) f is)

told_by : (act : Act) (w v : World) (m : Option ℕ) (p : Path) (t s : Stamp) (es : List Event) → v.nodes ≡ w.nodes → IsStamped m p t es → IsDigested w m p t s → Follows act v es → IsTold w m p s
told_by act w v (Some serial) p t s es same h d follows = d ∙ h.0
told_by act w v None p t s es same (e, is, (time, read_only, call, stamp)) (sum, told, s_is) follows =
    let one = subst (Follows act v) is follows in
    let lets : Lets act v (Looked p (Ok (File time read_only))) e.left = subst (λ (c : Call). Lets act v c e.left) call one.0.lets in
    λ f stands.
    s_is ∙ ap (with_sum sum) stamp
    ∙ told_node (w.nodes p) time read_only sum f (subst (λ (g : Path → NodeState). StatIs (File time read_only) (g p)) same lets.1) told stands

pub all_told :
    (o : Outside) (w v : World) (made : Serials) (ps : List Path) (ts ss : List Stamp) (es : List Event) →
    v.nodes ≡ w.nodes → AreStamped made ps ts es → AreDigested w made ps ts ss → Follows o.act v es → AreTold w made ps ss
all_told o w v made [] [] [] es same h d follows = tt
all_told o w v made [] [] (s ∷ ss) es same h d follows = absurd d
all_told o w v made [] (t ∷ ts) ss es same h d follows = absurd h
all_told o w v made (p ∷ ps) [] ss es same h d follows = absurd h
all_told o w v made (p ∷ ps) (t ∷ ts) [] es same h d follows = absurd d
all_told o w v made (p ∷ ps) (t ∷ ts) (s ∷ ss) es same h d follows =
    let first = h.0 in
    let more = h.1 in
    let split = follows_split o.act v first more (subst (Follows o.act v) h.2 follows) in
    let whole : AreStamped made (p ∷ []) (t ∷ []) first = (first, [], sym (append-nil first), h.3, refl) in
    let still = looks_same o v first (looks_by o first (stamped_each IsLooking lookings made (p ∷ []) (t ∷ []) first whole)) split.0 in
    (told_by o.act w v (made p) p t s first same h.3 d.0 split.0, all_told o w (run v first) made ps ts ss more (still.nodes ∙ same) h.4 d.1 split.1)

from_looks : (o : Outside) (made : Serials) (t : Turn) (c : Course) (w : World) (es : List Event) → HasStampedAnd made t (HasGone t c) w es → Follows o.act w es → AreTold w made (in_paths t.job.recipe) (found t.looked)
from_looks o made t c w es h follows =
    let d = h.stamped in
    let seen = (follows_split o.act w h.seen h.rest (subst (Follows o.act w) h.events follows)).0 in
    all_told o w w made (in_paths t.job.recipe) d.seen (found t.looked) d.looks refl d.stamped d.digested (follows_split o.act w d.looks d.reads (subst (Follows o.act w) d.events seen)).0

-- the stamps of a turn in which more was done than looks
pub turn_told : (o : Outside) (made : Serials) (t : Turn) (c : Course) (w : World) (es : List Event) → is_begun c ≡ true → IsTurnBy made t c w es → Follows o.act w es → AreTold w made (in_paths t.job.recipe) (found t.looked)
turn_told o made t Unbegun w es begun h follows = absurd (true≢false (sym begun))
turn_told o made t Unstarted w es begun h follows = from_looks o made t Unstarted w es h follows
turn_told o made t Unclosed w es begun h follows = from_looks o made t Unclosed w es h follows
turn_told o made t (Closed ending) w es begun h follows = from_looks o made t (Closed ending) w es h follows

pub told_length : (w : World) (made : Serials) (ps : List Path) (ss : List Stamp) → AreTold w made ps ss → length ss ≡ length ps
told_length w made [] [] h = refl
told_length w made [] (s ∷ ss) h = absurd h
told_length w made (p ∷ ps) [] h = absurd h
told_length w made (p ∷ ps) (s ∷ ss) h = omega (arith, told_length w made ps ss h.1)
