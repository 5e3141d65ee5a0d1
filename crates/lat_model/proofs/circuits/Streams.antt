-- What follows for every run of a pair: streams in order, no broken circuit, bytes heard as numbers.
use Rattle.std.proofs.Common.{◌≡◌, ℕ, ◌≤◌, ◌⊎◌, inl, inr, ⊎_elim, sym, ap, ◌∙◌, subst, Bool, true, false, not, List, [], ◌∷◌, ◌++◌, Some, slice_get}
use Rattle.lat_model.specs.sessions.Slots.{Slot, items, credits, turned}
use Rattle.lat_model.specs.sessions.Session.{Session, free, stopped, peer, rejected}
use Rattle.lat_model.specs.sessions.Sessions.{Sessions, of_generation, named}
use Rattle.lat_model.specs.sessions.Packing.{TaggedSlot}
use Rattle.lat_model.specs.numbers.Link.{Frame}
use Rattle.lat_model.specs.numbers.NetOk.{FrameOf}
use Rattle.lat_model.specs.sessions.EndOk.{EndOk, Head, Shape}
use Rattle.lat_model.specs.sessions.Joined.{Flows, Quiet, Joined, slots_of}
use Rattle.lat_model.specs.ends.End.{Mark, Run, Half}
use Rattle.lat_model.specs.ends.Run.{RunBroke, run_end}
use Rattle.lat_model.specs.circuits.Pair.{Pair, Posted, PairRun, Event, run, open_pair, end_of}
use Rattle.lat_model.specs.ends.Starting.{Setup}
use Rattle.lat_model.specs.circuits.Together.{PostIs, Together, flat, wires}
use Rattle.lat_model.specs.circuits.InOrder.{Stream, InOrder}
use Rattle.lat_model.specs.circuits.Heard.{IsYoung, hearer, heard_frame}
use Rattle.lat_model.specs.circuits.Matched.{Generations, CreditsOf}
use Rattle.lat_model.specs.circuits.History.{History}
use Rattle.lat_model.specs.circuits.Agree.{Agree}
use Rattle.lat_model.proofs.circuits.Logs.{wires-append, flat-append}
use Rattle.std.proofs.lemmas.List.{append_cancel_right}
use Rattle.lat_model.proofs.sessions.Words.{items-append, credits-append, slots_of-append}
use Rattle.std.proofs.lemmas.Bool.{true≢false, false≢true, or_parts, both_ways}
use Rattle.lat_model.proofs.sessions.Meets.{Met, met}
use Rattle.lat_model.proofs.sessions.Hears.{who_some}
use Rattle.lat_model.proofs.sessions.Starts.{free_cases, free_decides, reject_turns, starts_not_nil}
use Rattle.lat_model.proofs.sessions.Replies.{named_since}
use Rattle.lat_model.proofs.numbers.Net.{each_at, young_bytes}
use Rattle.lat_model.proofs.circuits.Halves.{Sides}
use Rattle.lat_model.proofs.circuits.Pairs.{PairOk, RunOk, run_ok, run_pair_ok, open_ok}

pub every_run : (u : Setup) (es : List Event) → u.ceiling ≤ 255 → PairOk (run es (open_pair u))
every_run u es h = run_pair_ok es (open_pair u) (open_ok u h)

pub stream : (a b : Sessions) (wire : List TaggedSlot) → EndOk a → EndOk b → Flows a b wire → (g : ℕ) → Stream (of_generation a g) (of_generation b g)
stream a b wire aok bok f g = record {
  taken = (bok.accounts (b.serial_of g)).taken;
  heard = (items (slots_of g wire), sym (items-append (of_generation b g).came (slots_of g wire)) ∙ ap items (sym (f.at_generation g)));
  framed = (aok.accounts (a.serial_of g)).framed;
}

pub in_order : (w : Pair) → PairOk w → InOrder w
in_order w k =
    let t : Together w.master.half w.slave.half w.posts = k.together in
    record {
      up = stream w.master.half.sessions w.slave.half.sessions (flat t.up) t.joined.master_ok t.joined.slave_ok t.joined.flow_up;
      down = stream w.slave.half.sessions w.master.half.sessions (flat t.down) t.joined.slave_ok t.joined.master_ok t.joined.flow_down;
    }

-- a RUN among the frames is one of its sender
pub frame_of : (w : Pair) → PairOk w → (i : ℕ) (b : Bool) (m : Mark) (ask : Bool) (f : Frame (List Slot)) → slice_get w.posts i ≡ Some (record { by_master = b; sent = Run m ask f }) → FrameOf (List Slot) (end_of w b).half.link f
frame_of w k i b m ask f e = go b (each_at (λ q. PostIs w.master.half.link w.slave.half.link q.by_master q.sent) w.posts i (record { by_master = b; sent = Run m ask f }) k.together.frames e)
  where
    go : (c : Bool) → PostIs w.master.half.link w.slave.half.link c (Run m ask f) → FrameOf (List Slot) (end_of w c).half.link f
    go true h = h
    go false h = h

hearing : (w : Pair) → PairOk w → (b : Bool) → Sides (not b) (hearer w b).half (end_of w b).half w.posts
hearing w k true = k.together
hearing w k false = k.together

window_at : (w : Pair) → PairOk w → (b : Bool) → (end_of w b).window ≤ 8
window_at w k true = k.windows.0
window_at w k false = k.windows.1

pub never_broken : (w : Pair) → PairOk w → (i now : ℕ) (b : Bool) (m : Mark) (ask : Bool) (f : Frame (List Slot)) → slice_get w.posts i ≡ Some (record { by_master = b; sent = Run m ask f }) → (run_end now ask f (hearer w b)).answer ≡ RunBroke → ⊥
never_broken w k i now b m ask f e =
    let r : RunOk (not b) (run_end now ask f (hearer w b)) (end_of w b).half w.posts = run_ok (not b) now ask f (hearer w b) (end_of w b).half w.posts (window_at w k (not b)) (frame_of w k i b m ask f e) (hearing w k b) in
    r.whole

pub bytes_heard : (w : Pair) → PairOk w → (i r : ℕ) (b : Bool) (m : Mark) (ask : Bool) (f : Frame (List Slot)) → slice_get w.posts i ≡ Some (record { by_master = b; sent = Run m ask f }) → IsYoung r w b f → heard_frame r w b f ≡ f
bytes_heard w k i r b m ask f e y = go b (frame_of w k i b m ask f e) y
  where
    go : (c : Bool) → FrameOf (List Slot) (end_of w c).half.link f → IsYoung r w c f → heard_frame r w c f ≡ f
    go true o y = young_bytes r w.master.half.link w.slave.half.link f y.half_range o k.together.way_up k.together.way_down y.young
    go false o y = young_bytes r w.slave.half.link w.master.half.link f y.half_range o k.together.way_down k.together.way_up y.young

-- generations and credits

pub generations : (a b : Sessions) (wire back : List TaggedSlot) → EndOk a → EndOk b → Quiet a → Flows a b wire → Flows b a back → Generations a b
generations a b wire back aok bok quiet f r k fr st ns =
    let x : Session = a.session k in
    let n : x.generation ≡ 0 → ⊥ = named_since a quiet k (starts_not_nil x.came st) in
    let at : of_generation a x.generation ≡ x = ap a.session (aok.serial_found k n) in
    let y : Session = of_generation b x.generation in
    let ea : x.out ≡ y.came ++ slots_of x.generation wire = sym (ap (λ (z : Session). z.out) at) ∙ f.at_generation x.generation in
    let eb : y.out ≡ x.came ++ slots_of x.generation back = r.at_generation x.generation ∙ ap (λ (z : Session). z.came ++ slots_of x.generation back) at in
    let m : Met x y = met b.master x y (slots_of x.generation back) (bok.each (b.serial_of x.generation)) eb st in
    let turn : turned y.came ≡ true → ⊥ = λ t. rejects y.came ea t in
    ⊎_elim {C = ((named b (peer x)).generation ≡ x.generation) ⊎ (stopped y ≡ true)}
    (λ h. ⊎_elim {C = ((named b (peer x)).generation ≡ x.generation) ⊎ (stopped y ≡ true)} (λ t. absurd (turn t)) (λ s. inr s) (free_cases y m.rejects h))
    (λ h. inl (ap (λ z. (b.session z).generation) (ap b.at_id m.peer ∙ bok.holds (b.serial_of x.generation) h) ∙ bok.generation_found x.generation (who_some b (λ z. free z ≡ false) (λ q. true≢false q) bok x.generation h)))
    (free_decides y)
  where
    rejects : (c : List Slot) → (a.session k).out ≡ c ++ slots_of (a.session k).generation wire → turned c ≡ true → ⊥
    rejects [] e t = false≢true t
    rejects (z ∷ zs) e t =
        let h : Head a.master (a.session k) z (zs ++ slots_of (a.session k).generation wire) = subst (Shape a.master (a.session k)) e (aok.each k).shape in
        let p : (rejected (a.session k) ≡ false) × _ = or_parts (rejected (a.session k)) _ fr in
        both_ways (a.session k).rejects (or_parts (a.session k).rejects (turned (a.session k).came) p.0).0 (h.reject (reject_turns z t)).1

pub credits_of_pair : (a b : Sessions) (wire : List TaggedSlot) → EndOk a → Flows a b wire → (g : ℕ) → CreditsOf a b wire g
credits_of_pair a b wire ok f g = record {
  given = sym (credits-append (of_generation b g).came (slots_of g wire)) ∙ ap credits (sym (f.at_generation g));
  ceiling = (ok.accounts (a.serial_of g)).gives;
  used = (ok.accounts (a.serial_of g)).spends;
}

-- the messages of both ends

cut : (g : ℕ) (xs : List Slot) (done way : List (List TaggedSlot)) → xs ++ slots_of g (flat way) ≡ slots_of g (flat (done ++ way)) → xs ≡ slots_of g (flat done)
cut g xs done way e =
    append_cancel_right xs (slots_of g (flat done)) (slots_of g (flat way))
    (e ∙ ap (slots_of g) (flat-append done way) ∙ slots_of-append g (flat done) (flat way))

pub history_up : (m s : Half) (ps : List Posted) → Together m s ps → History m
history_up m s ps t = record {
  formed = t.up_done ++ t.up;
  taken = t.down_done;
  formed_is = wires-append t.up_done t.up ∙ ap (λ z. z ++ wires t.up) t.logs.done_up ∙ t.up_is;
  taken_is = t.logs.done_down;
  out_is = t.logs.log_up;
  came_is = λ g. cut g (of_generation m.sessions g).came t.down_done t.down (sym (t.joined.flow_down.at_generation g) ∙ t.logs.log_down g);
}

pub history_down : (m s : Half) (ps : List Posted) → Together m s ps → History s
history_down m s ps t = record {
  formed = t.down_done ++ t.down;
  taken = t.up_done;
  formed_is = wires-append t.down_done t.down ∙ ap (λ z. z ++ wires t.down) t.logs.done_down ∙ t.down_is;
  taken_is = t.logs.done_up;
  out_is = t.logs.log_down;
  came_is = λ g. cut g (of_generation s.sessions g).came t.up_done t.up (sym (t.joined.flow_up.at_generation g) ∙ t.logs.log_up g);
}

pub agree : (m s : Half) (ps : List Posted) → Together m s ps → Agree m s
unfolding history_up history_down
agree m s ps t =
    let j : Joined m.sessions s.sessions (flat t.up) (flat t.down) = t.joined in
    let u : History m = history_up m s ps t in
    let d : History s = history_down m s ps t in
    record {
      numbers_up = t.way_up;
      numbers_down = t.way_down;
      order_up = stream m.sessions s.sessions (flat t.up) j.master_ok j.slave_ok j.flow_up;
      order_down = stream s.sessions m.sessions (flat t.down) j.slave_ok j.master_ok j.flow_down;
      generations_up = generations m.sessions s.sessions (flat t.up) (flat t.down) j.master_ok j.slave_ok j.quiet_up j.flow_up j.flow_down;
      generations_down = generations s.sessions m.sessions (flat t.down) (flat t.up) j.slave_ok j.master_ok j.quiet_down j.flow_down j.flow_up;
      credits_up = record { way = t.up; way_is = t.up_is; each = credits_of_pair m.sessions s.sessions (flat t.up) j.master_ok j.flow_up };
      credits_down = record { way = t.down; way_is = t.down_is; each = credits_of_pair s.sessions m.sessions (flat t.down) j.slave_ok j.flow_down };
      credited_up = record { history = u; spends = t.logs.credit_up.spends };
      credited_down = record { history = d; spends = t.logs.credit_down.spends };
      starts_up = record { history = u; shape = λ g. (j.master_ok.each (m.sessions.serial_of g)).shape; answered = t.logs.answered_up.each };
      starts_down = record { history = d; shape = λ g. (j.slave_ok.each (s.sessions.serial_of g)).shape; answered = t.logs.answered_down.each };
      ids_up = record { history = u; over = t.logs.renewed_up.over; single = t.logs.renewed_up.single };
      ids_down = record { history = d; over = t.logs.renewed_down.over; single = t.logs.renewed_down.single };
    }

pub reached_ok : (w : Pair) → PairRun w → PairOk w
reached_ok w r = subst PairOk (sym r.reached) (every_run r.setup r.events r.ceiling)

pub pair_agree : (w : Pair) → PairRun w → Agree w.master.half w.slave.half
pair_agree w r = agree w.master.half w.slave.half w.posts (reached_ok w r).together
