-- What holds of all calls of a turn, where it holds of those of each of its parts.
use Rattle.std.proofs.Common.{inl, inr, ℕ, List, sym, subst, Result, Ok, Err}
use Rattle.smk_world.specs.declared.event.Event.{Event}
use Rattle.smk_world.specs.declared.event.WorkFault.{WorkFault}
use Rattle.smk_world.specs.World.{World, run, in_paths}
use Rattle.smk_world.specs.Requests.{Request}
use Rattle.smk_world.specs.Requests.Request.{Wait}
use Rattle.smk_world.specs.Trees.{Each}
use Rattle.smk_job.specs.Jobs.{Underway, begin_requests}
use Rattle.smk_run.specs.declared.ending.Ending.{Ending}
use Rattle.smk_run.specs.Stamps.{Serials}
use Rattle.smk_run.specs.Closings.{HasWaited, HasSettled, HasClosed}
use Rattle.smk_run.specs.Turns.{Course, Unbegun, Unstarted, Unclosed, Closed, Turn, found, as_underway, HasBegunAnd, HasGoneOn, HasGone, HasStampedAnd, IsTurnBy, IsTurn}
use Rattle.smk_run.proofs.Calls.{EachCall, OfLooks, OfClosing, each_then, done_each, cut_each, digested_each, has_inputs_each, settled_each}

waited_each : (P : Request → Type 0) (j : Underway) (wait : P Wait) (all : OfClosing P j) (r : Result Ending WorkFault) (w : World) (es : List Event) → HasWaited j.number (HasSettled j r) w es → EachCall P es
waited_each P j wait all r w es h = subst (EachCall P) (sym h.events) (wait, settled_each P j all r h.ended.status _ h.rest h.then_did)

closed_each : (P : Request → Type 0) (j : Underway) (wait : P Wait) (all : OfClosing P j) (r : Result Ending WorkFault) (w : World) (es : List Event) → HasClosed j r w es → EachCall P es
closed_each P j wait all (Ok ending) w es h = waited_each P j wait all (Ok ending) w es h
closed_each P j wait all (Err f) w es (inl h) = subst (EachCall P) (sym h.1.1) (wait, tt)
closed_each P j wait all (Err f) w es (inr h) = waited_each P j wait all (Err f) w es h

-- ## The turn

-- All calls of a turn are so.
pub record OfTurn (P : Request → Type 0) (t : Turn) : Type 0 where
  pub looks : OfLooks P
  pub wait : P Wait
  pub begin : Each P (begin_requests t.job.recipe t.job.logs t.command)
  pub closing : (number : ℕ) → OfClosing P (as_underway t number)

gone_on_each : (P : Request → Type 0) (j : Underway) (wait : P Wait) (all : OfClosing P j) (c : Course) (w : World) (es : List Event) → HasGoneOn j c w es → EachCall P es
gone_on_each P j wait all Unbegun w es h = absurd h
gone_on_each P j wait all Unstarted w es h = absurd h
gone_on_each P j wait all Unclosed w es (f, h) = closed_each P j wait all (Err f) w es h
gone_on_each P j wait all (Closed ending) w es h = closed_each P j wait all (Ok ending) w es h

begun_each : (P : Request → Type 0) (t : Turn) (all : OfTurn P t) (c : Course) (w : World) (es : List Event) → HasBegunAnd t (λ number v fs. HasGoneOn (as_underway t number) c v fs) w es → EachCall P es
begun_each P t all c w es h =
    each_then P es h.first h.rest h.events (done_each P (begin_requests t.job.recipe t.job.logs t.command) h.first all.begin h.begun)
    (gone_on_each P (as_underway t h.number) all.wait (all.closing h.number) c (run w h.first) h.rest h.then_did)

gone_each : (P : Request → Type 0) (t : Turn) (all : OfTurn P t) (c : Course) (w : World) (es : List Event) → HasGone t c w es → EachCall P es
gone_each P t all Unbegun w es h = subst (EachCall P) (sym h) tt
gone_each P t all Unstarted w es h = cut_each P (begin_requests t.job.recipe t.job.logs t.command) es all.begin h
gone_each P t all Unclosed w es h = begun_each P t all Unclosed w es h
gone_each P t all (Closed ending) w es h = begun_each P t all (Closed ending) w es h

stamped_and_each : (P : Request → Type 0) (made : Serials) (t : Turn) (all : OfTurn P t) (c : Course) (w : World) (es : List Event) → HasStampedAnd made t (HasGone t c) w es → EachCall P es
stamped_and_each P made t all c w es h =
    each_then P es h.seen h.rest h.events (digested_each P all.looks made (in_paths t.job.recipe) (found t.looked) w h.seen h.stamped)
    (gone_each P t all c (run w h.seen) h.rest h.then_did)

turn_by_each : (P : Request → Type 0) (made : Serials) (t : Turn) (all : OfTurn P t) (c : Course) (w : World) (es : List Event) → IsTurnBy made t c w es → EachCall P es
turn_by_each P made t all Unbegun w es h = has_inputs_each P all.looks made (in_paths t.job.recipe) t.looked w es h
turn_by_each P made t all Unstarted w es h = stamped_and_each P made t all Unstarted w es h
turn_by_each P made t all Unclosed w es h = stamped_and_each P made t all Unclosed w es h
turn_by_each P made t all (Closed ending) w es h = stamped_and_each P made t all (Closed ending) w es h

pub turn_each : (P : Request → Type 0) (made : Serials) (t : Turn) (w : World) (es : List Event) → OfTurn P t → IsTurn made t w es → EachCall P es
turn_each P made t w es all h = turn_by_each P made t all t.course w es h
