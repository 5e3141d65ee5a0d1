-- A world behind an event of each kind.
use Rattle.std.proofs.Common.{◌≡◌, ℕ, sym, ap, ◌∙◌, refl, subst, Bool, true, false, not, cond, List, [], ◌∷◌, length, Option, Some, None, is_some, slice_get, Result, Ok, Err}
use Rattle.std.specs.Prelude.{OnOk, OnErr}
use Rattle.lat_base.specs.declared.answer.Answer as base_answer
use Rattle.lat_base.specs.declared.event.Event as base
use Rattle.lat_machines.specs.values.Answers as machines
use Rattle.lat_machines.specs.values.Events.{Event, is_heard}
use Rattle.lat_machines.specs.values.Frames.{Reading}
use Rattle.lat_machines.specs.world.Machines.{Setups, Posted, Machines, Move, Does, HearsFrame, HearsForeign, core_of, is_for_other, is_own, heard_as, happens, run}
use Rattle.lat_machines.specs.world.Safe.{answer_by}
use Rattle.lat_laws.specs.tales.Books.{lines_at}
use Rattle.lat_laws.specs.tales.Items.{line_of, put_by, taken_by}
use Rattle.lat_laws.specs.tales.Rows.{RowsAfter, KeepsRows}
use Rattle.lat_laws.specs.tales.Keeping.{adds, rows_after, rows_at_frame, rows_at}
use Rattle.lat_laws.proofs.tales.rows.Runs.{next_keeps}
use Rattle.lat_lines.specs.AnswerValues.{answer_of}
use Rattle.lat_lines.specs.Events.{event_shown}
use Rattle.lat_replay.specs.roster.Roster as rosters
use Rattle.lat_wire.specs.declared.fault.EventFault.{EventFault}
use Rattle.lat_wire.specs.declared.fault.EventFault.TheVariants.{OwnAddress}
use Rattle.lat_wire.specs.Kept as wires
use Rattle.lat_wire.specs.Rates.{rates}
use Rattle.lat_wire.specs.Refusals.{RefusedAs, first_of, full, inject_refusal}
use Rattle.lat_wire.specs.Stands as wire_stands
use Rattle.lat_wire.specs.declared.ledger.post.SentFrame.{SentFrame}
use Rattle.lat_wire.specs.Told.{answered, answered_to, ShowsPost}
use Rattle.lat_replay.specs.roster.Moves.{IsReached, end_told, hearer, items_added}
use Rattle.lat_replay.specs.roster.Reserved.{FitsIn}
use Rattle.lat_schedule.specs.declared.event.WorldEvent.{WorldEvent}
use Rattle.lat_replay.specs.Moves.{move_of, refusal_of}
use Rattle.lat_replay.specs.Kept.{Kept, setups_of, moment_of}
use Rattle.lat_replay.specs.Stands.{Stands, Holds}

-- the rows go on with every move

reached : {H : Type 0} (k : Kept H) (w : Machines) → Stands k w → IsReached (setups_of k) w
reached k w s = record { fit = s.wire.fit; moves = s.wire.moves; run = s.wire.run }

keeps_on : (u : Setups) (w : Machines) (m : Move) (k : RowsAfter) → IsReached u w → KeepsRows u w k → KeepsRows u (happens u w m) (rows_after u w m k)
keeps_on u w m k r h =
    subst (λ z. KeepsRows u (happens u z m) (rows_after u z m k)) (sym r.run)
    (next_keeps u r.moves m k r.fit (subst (λ z. KeepsRows u z k) r.run h))

moved : {H : Type 0} (k new : Kept H) (w : Machines) (m : Move) (s : Stands k w) → setups_of new ≡ setups_of k → wire_stands.Stands new.wire (happens (setups_of k) w m) → rosters.HasRows new.roster (rows_after (setups_of k) w m s.rows) → Stands new (happens (setups_of k) w m)
moved k new w m s same wire shows = record {
  wire = wire;
  rows = rows_after (setups_of k) w m s.rows;
  keeps = subst (λ u. KeepsRows u (happens (setups_of k) w m) (rows_after (setups_of k) w m s.rows)) (sym same) (keeps_on (setups_of k) w m s.rows (reached k w s) s.keeps);
  shows = shows;
}

-- the new sessions were followed

abbrev pub Follows : {H : Type 0} → wires.Kept H → Bool → ℕ → rosters.Kept → rosters.Kept → Type 0
Follows wire server before old new =
    (u : Setups) (w : Machines) (m : Move) (k : RowsAfter) →
    wires.setups_of wire ≡ u →
    IsReached u w →
    end_told u w m ≡ Some server →
    wire_stands.Stands wire (happens u w m) →
    before ≡ length (core_of w server).seats →
    KeepsRows u w k →
    rosters.HasRows old (items_added u w m k) →
    rosters.HasRows new (rows_after u w m k)

followed : {H : Type 0} (k new : Kept H) (w : Machines) (m : Move) (server : Bool) (before : ℕ) (mid : rosters.Kept) (s : Stands k w) → setups_of new ≡ setups_of k → Follows new.wire server before mid new.roster → end_told (setups_of k) w m ≡ Some server → before ≡ length (core_of w server).seats → wire_stands.Stands new.wire (happens (setups_of k) w m) → rosters.HasRows mid (items_added (setups_of k) w m s.rows) → Stands new (happens (setups_of k) w m)
followed k new w m server before mid s same follows told count wire items =
    moved k new w m s same wire (follows (setups_of k) w m s.rows same (reached k w s) told wire count s.keeps items)

-- an event that isn't a frame

abbrev pub AddsItems : Bool → base.Event → base_answer.Answer → rosters.Kept → rosters.Kept → Type 0
AddsItems server e answer old new =
    (a : machines.Answer) (k : RowsAfter) →
    answer ≡ answer_of a →
    rosters.HasRows old k →
    rosters.HasRows new (adds server (line_of (event_shown e)) (put_by (event_shown e) a) (taken_by (event_shown e) a) k)

pub local_stands : {H : Type 0} (k new : Kept H) (w : Machines) (server : Bool) (e : base.Event) (a : base_answer.Answer) (before : ℕ) (room mid : rosters.Kept) → is_heard (event_shown e) ≡ false → setups_of new ≡ setups_of k → ((r : RowsAfter) → rosters.HasRows k.roster r → rosters.HasRows room r) → AddsItems server e a room mid → Follows new.wire server before mid new.roster → a ≡ answered (setups_of k) w server (event_shown e) → before ≡ length (core_of w server).seats → wire_stands.Stands new.wire (happens (setups_of k) w (Does server (event_shown e) (rates (setups_of k) w))) → Stands k w → Stands new (happens (setups_of k) w (Does server (event_shown e) (rates (setups_of k) w)))
local_stands k new w server e a before room mid local same reserved items follows answer count wire s =
    followed k new w (Does server (event_shown e) (rates (setups_of k) w)) server before mid s same follows
    (ap (λ z. cond z None (Some server)) local)
    count wire
    (items (answer_by (setups_of k) w server (event_shown e)) s.rows answer (reserved s.rows s.shows))

-- a payload from outside

own_passes : (b : Bool) → first_of (cond b (Some OwnAddress) None ∷ []) ≡ None → b ≡ false
own_passes false e = refl
own_passes true e = let z : ⊥ = cc in absurd z

not_own : (a : Option EventFault) (b : Bool) → first_of (a ∷ cond b (Some OwnAddress) None ∷ []) ≡ None → b ≡ false
not_own None b e = own_passes b e
not_own (Some f) b e = let z : ⊥ = cc in absurd z

pub foreign_stands : {H : Type 0} (k new : Kept H) (w : Machines) (server : Bool) (from now : ℕ) (payload : Reading) (before : ℕ) (room : rosters.Kept) → setups_of new ≡ setups_of k → ((r : RowsAfter) → rosters.HasRows k.roster r → rosters.HasRows room r) → Follows new.wire server before room new.roster → inject_refusal (setups_of k) w from ≡ None → before ≡ length (core_of w server).seats → wire_stands.Stands new.wire (happens (setups_of k) w (HearsForeign server from payload now (rates (setups_of k) w))) → Stands k w → Stands new (happens (setups_of k) w (HearsForeign server from payload now (rates (setups_of k) w)))
foreign_stands k new w server from now payload before room same reserved follows refusal count wire s =
    followed k new w (HearsForeign server from payload now (rates (setups_of k) w)) server before room s same follows
    (ap (λ z. cond z None (Some server)) (not_own (full w) (is_own (setups_of k) from) refusal))
    count wire
    (reserved s.rows s.shows)

-- a frame that is delivered

-- it was heard: it is there, and for the other end
record WasHeard (u : Setups) (w : Machines) (i : ℕ) : Type 0 where
  pub post : Posted
  pub there : slice_get w.posts i ≡ Some post
  pub other : is_for_other u post ≡ true

was_heard : (u : Setups) (w : Machines) (i now : ℕ) (o : Option Posted) → slice_get w.posts i ≡ o → is_some (answered_to u w now o) ≡ true → WasHeard u w i
was_heard u w i now None there e = let z : ⊥ = cc in absurd z
was_heard u w i now (Some p) there e = go (is_for_other u p) refl e
  where
    go : (b : Bool) → is_for_other u p ≡ b → is_some (cond b (Some (answered u w (not p.by_server) (heard_as u p now))) None) ≡ true → WasHeard u w i
    go true q e = record { post = p; there = there; other = q }
    go false q e = let z : ⊥ = cc in absurd z

pub frame_stands : {H : Type 0} (k new : Kept H) (w : Machines) (i now : ℕ) (hearing : Bool) (a : Option base_answer.Answer) (before : ℕ) (room : rosters.Kept) → setups_of new ≡ setups_of k → ((r : RowsAfter) → rosters.HasRows k.roster r → rosters.HasRows room r) → Follows new.wire hearing before room new.roster → a ≡ answered_to (setups_of k) w now (slice_get w.posts i) → is_some a ≡ true → ((p : Posted) → slice_get w.posts i ≡ Some p → hearing ≡ not p.by_server) → before ≡ length (core_of w hearing).seats → wire_stands.Stands new.wire (happens (setups_of k) w (HearsFrame i now (rates (setups_of k) w))) → Stands k w → Stands new (happens (setups_of k) w (HearsFrame i now (rates (setups_of k) w)))
frame_stands k new w i now hearing a before room same reserved follows answer heard side count wire s =
    followed k new w (HearsFrame i now (rates (setups_of k) w)) hearing before room s same follows
    (told (was_heard (setups_of k) w i now (slice_get w.posts i) refl (ap is_some (sym answer) ∙ heard)))
    count wire
    (reserved s.rows s.shows)
  where
    told : WasHeard (setups_of k) w i → hearer (setups_of k) (slice_get w.posts i) ≡ Some hearing
    told h = ap (hearer (setups_of k)) h.there ∙ (ap (λ z. cond z (Some (not h.post.by_server)) None) h.other ∙ ap Some (sym (side h.post h.there)))

-- the end that hears it is the one that didn't send it

same_post : (x y : Posted) → Some x ≡ Some y → x ≡ y
same_post x y e = cc

pub other_side : (w : Machines) (i : ℕ) (by_server : Bool) (f : SentFrame) (p : Posted) → ShowsPost w.posts i by_server f → slice_get w.posts i ≡ Some p → not by_server ≡ not p.by_server
other_side w i by_server f p t q = ap not (t.side ∙ ap (λ (z : Posted). z.by_server) (same_post t.post p (sym t.is ∙ q)))

pub no_post : (w : Machines) (i : ℕ) (b : Bool) (p : Posted) → slice_get w.posts i ≡ None → slice_get w.posts i ≡ Some p → b ≡ not p.by_server
no_post w i b p e q = let z : ⊥ = not_there p (sym e ∙ q) in absurd z
  where
    not_there : (p : Posted) → None ≡ Some p → ⊥
    not_there p q = cc

-- nothing heard it: the rows stay
unheard_rows : (u : Setups) (w : Machines) (now : ℕ) (rs : List ℕ) (r : RowsAfter) (o : Option Posted) → is_some (answered_to u w now o) ≡ false → rows_at_frame u w now rs o r ≡ r
unheard_rows u w now rs r None e = refl
unheard_rows u w now rs r (Some p) e = go (is_for_other u p) e
  where
    go : (b : Bool) → is_some (cond b (Some (answered u w (not p.by_server) (heard_as u p now))) None) ≡ false → cond b (rows_at u w (not p.by_server) (heard_as u p now) rs r) r ≡ r
    go false e = refl
    go true e = let z : ⊥ = cc in absurd z

pub unheard_stands : {H : Type 0} (k new : Kept H) (w : Machines) (i now : ℕ) (a : Option base_answer.Answer) → setups_of new ≡ setups_of k → ((r : RowsAfter) → rosters.HasRows k.roster r → rosters.HasRows new.roster r) → a ≡ answered_to (setups_of k) w now (slice_get w.posts i) → is_some a ≡ false → wire_stands.Stands new.wire (happens (setups_of k) w (HearsFrame i now (rates (setups_of k) w))) → Stands k w → Stands new (happens (setups_of k) w (HearsFrame i now (rates (setups_of k) w)))
unheard_stands k new w i now a same reserved answer unheard wire s =
    moved k new w (HearsFrame i now (rates (setups_of k) w)) s same wire
    (subst (rosters.HasRows new.roster) (sym (unheard_rows (setups_of k) w now (rates (setups_of k) w) s.rows (slice_get w.posts i) (ap is_some (sym answer) ∙ unheard))) (reserved s.rows s.shows))

-- an event that is refused: the wire is as it was

pub refused_stands : {H : Type 0} (k new : Kept H) (w : Machines) → new.wire ≡ k.wire → ((r : RowsAfter) → rosters.HasRows k.roster r → rosters.HasRows new.roster r) → Stands k w → Stands new w
refused_stands {H = H} k new w same reserved s = record {
  wire = subst (λ (z : wires.Kept H). wire_stands.Stands z w) (sym same) s.wire;
  rows = s.rows;
  keeps = subst (λ u. KeepsRows u w s.rows) (sym (ap (λ (z : wires.Kept H). wires.setups_of z) same)) s.keeps;
  shows = reserved s.rows s.shows;
}

-- behind every event there is a world that is stood for, and the ends have the lines that they had

pub holds_on : {H : Type 0} (k new : Kept H) (m : Machines → Move) (server_lines node_lines : ℕ) → setups_of new ≡ setups_of k → ((w : Machines) → Stands k w → Stands new (happens (setups_of k) w (m w))) → Holds k server_lines node_lines → Holds new server_lines node_lines
holds_on k new m server_lines node_lines same goes h = record {
  world = happens (setups_of k) h.world (m h.world);
  stands = goes h.world h.stands;
  of_server = ap (lines_at true) same ∙ h.of_server;
  of_node = ap (lines_at false) same ∙ h.of_node;
}

-- what holds anyway holds of a refusal
pub on_err : {A E : Type 0} {P : Type 0} (r : Result A E) → P → OnErr r P
on_err (Ok a) p = tt
on_err (Err e) p = p

-- the rows have room for what an event adds, since there is a world that the wire stands for
pub fits : {H : Type 0} (k : wires.Kept H) (w : Machines) (r : rosters.Kept) (server : Bool) (e : base.Event) (a : base_answer.Answer) → wire_stands.Stands k w → ((w : Machines) → wire_stands.Stands k w → FitsIn r server e (answered (wires.setups_of k) w server (event_shown e))) → a ≡ answered (wires.setups_of k) w server (event_shown e) → FitsIn r server e a
fits k w r server e a s items answer = subst (λ z. FitsIn r server e z) (sym answer) (items w s)

-- an event by its kind

pub goes_as : {A H : Type 0} (k new : Kept H) (r : Result A EventFault) (e known : WorldEvent) → e ≡ known → OnOk r ((w : Machines) → Stands k w → Stands new (happens (setups_of k) w (move_of (setups_of k) w (moment_of k) known))) → OnOk r ((w : Machines) → Stands k w → Stands new (happens (setups_of k) w (move_of (setups_of k) w (moment_of k) e)))
goes_as {H = H} k new r e known is h = subst (λ z. OnOk r ((w : Machines) → Stands k w → Stands new (happens (setups_of k) w (move_of (setups_of k) w (moment_of k) z)))) (sym is) h

pub refused_as : {A H : Type 0} (k : Kept H) (r : Result A EventFault) (e known : WorldEvent) → e ≡ known → ((w : Machines) → Stands k w → RefusedAs r (refusal_of (setups_of k) w (moment_of k) known)) → (w : Machines) → Stands k w → RefusedAs r (refusal_of (setups_of k) w (moment_of k) e)
refused_as k r e known is h = subst (λ z. (w : Machines) → Stands k w → RefusedAs r (refusal_of (setups_of k) w (moment_of k) z)) (sym is) h
