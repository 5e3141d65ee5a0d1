-- Behind the take phase all is taken that came, where no end has closed.
use Rattle.std.proofs.Common.{◌≡◌, ◌≢◌, ℕ, zero, suc, ◌+◌, ◌<◌, ◌≤◌, ◌⊎◌, inl, inr, ⊎_elim, sym, ap, ap₂, ◌∙◌, refl, subst, arith, Bool, true, false, ◌&&◌, ◌||◌, List, [], ◌∷◌, ◌++◌, length, nat_eq, nat_lt, nat_le, ltb-true, leb-true, eqb-true}
use Rattle.std.proofs.lemmas.Bool.{and_parts, true≢false, false≢true, eqb-false}
use Rattle.lat_model.specs.sessions.Slots.{Slot, Start, DataA, DataB, Attention, Reject, Stop, is_start, is_reject, credits_of, items, costs, credits, starts, turned}
use Rattle.lat_model.specs.sessions.Session.{Session, free, stopped}
use Rattle.lat_model.specs.sessions.Sessions.{Sessions, of_generation}
use Rattle.lat_model.specs.sessions.Packing.{TaggedSlot}
use Rattle.lat_model.specs.sessions.EndOk.{Shape, SessionOk, Accounts, EndOk}
use Rattle.lat_model.specs.sessions.Joined.{Joined, slots_of}
use Rattle.lat_model.specs.Lists.{upwards}
use Rattle.lat_model.specs.ends.End.{lives}
use Rattle.lat_model.specs.circuits.World.{Table}
use Rattle.lat_model.specs.circuits.Ids.{is_drawn}
use Rattle.lat_machines.specs.cores.Cores.{Seat, Core}
use Rattle.lat_machines.specs.cores.Lines.{line_exists}
use Rattle.lat_machines.specs.world.Machines.{Setups, Machines, core_of}
use Rattle.lat_laws.specs.rounds.Idle.{In, AllTaken}
use Rattle.lat_laws.specs.rounds.Rounds.{take_lines, take_both}
use Rattle.lat_laws.specs.rounds.Plain.{Plain}
use Rattle.lat_laws.specs.rounds.Seated.{HasSeat, BothSeated}
use Rattle.lat_laws.proofs.rounds.ready.Smalls.{Waits_few, few_master, few_slave}
use Rattle.lat_laws.proofs.rounds.ready.Tooks.{TookOne, TookCore}
use Rattle.lat_laws.proofs.rounds.ready.Takes.{lines_of, seated_at, take_lines_took, take_lines_seated, take_lines_other, All_out, none_waits, turns_take}

abbrev sess : Table → ℕ → Sessions
sess t x = (t.circuit_at x).end.half.sessions

-- one side's lines

pub in_upwards : (k n j : ℕ) → n < k → k ≤ n + j → In k (upwards n j)
in_upwards k n zero a b = absurd (omega (arith, a, b))
in_upwards k n (suc j) a b = go (nat_eq k (suc n)) refl (λ c. in_upwards k (suc n) j c (omega (arith, b)))
  where
    go : (t : Bool) → nat_eq k (suc n) ≡ t → (suc n < k → In k (upwards (suc n) j)) → (k ≡ suc n) ⊎ In k (upwards (suc n) j)
    go true q h = inl (eqb-true k (suc n) q)
    go false q h = (let r : k ≢ suc n = eqb-false k (suc n) q in inr (h (omega (arith, a, r))))

line_in : (lines line : ℕ) → line_exists lines line ≡ true → In line (upwards 0 lines)
line_in lines line h =
    let p : (nat_lt 0 line ≡ true) × (nat_le line lines ≡ true) = and_parts (nat_lt 0 line) (nat_le line lines) h in
    in_upwards line 0 lines (ltb-true 0 line p.0) (omega (arith, leb-true line lines p.1))

abbrev after_takes : Setups → Bool → Machines → Core
after_takes u b w = core_of (take_lines u b (upwards 0 (lines_of u b)) w) b

pub side_takes : (u : Setups) (b : Bool) (w : Machines) (x : ℕ) → 0 < u.server.timing.sessions → BothSeated u w → EndOk (sess (core_of w b).circuits x) → ((k : ℕ) → Waits_few ((sess (core_of w b).circuits x).session k)) → is_drawn (core_of w b).circuits x ≡ true → lives ((after_takes u b w).circuits.circuit_at x).end ≡ true → (k : ℕ) → free ((sess (after_takes u b w).circuits x).session k) ≡ false → ((sess (after_takes u b w).circuits x).session k).closed ≡ false → ((sess (after_takes u b w).circuits x).session k).accepted ≡ true → All_out ((sess (after_takes u b w).circuits x).session k)
side_takes u b w x pos h ok few xd lv k fr cl ac = ⊎_elim {B = ((sess d.circuits x).session k).came ≡ []} {C = All_out ((sess d.circuits x).session k)} old (λ q. none_waits ((sess d.circuits x).session k) q) ((l.table.sessions x xd).each k)
  where
    c : Core
    c = core_of w b

    d : Core
    d = after_takes u b w

    l : TookCore c d
    l = take_lines_took u b (upwards 0 (lines_of u b)) w

    old : TookOne ((sess c.circuits x).session k) ((sess d.circuits x).session k) → All_out ((sess d.circuits x).session k)
    old q = seated ((seated_at u w b h).seat x k (sym (l.table.live x xd) ∙ lv) (q.frees fr) (sym q.accepted ∙ ac))
      where
        seated : HasSeat c x k → All_out ((sess d.circuits x).session k)
        seated g =
            let s : Seat = g.seat in
            let e : (t : Table) → (sess t s.circuit).session s.serial ≡ (sess t x).session k = λ t. ap₂ (λ i j. (sess t i).session j) g.circuit g.serial in
            subst All_out (e d.circuits)
            (turns_take u b (upwards 0 (lines_of u b)) w s pos h g.is_seat (subst (λ i. EndOk (sess c.circuits i)) (sym g.circuit) ok) (subst Waits_few (sym (e c.circuits)) (few k)) (line_in (lines_of u b) s.line ((seated_at u w b h).placed s g.is_seat).line)
            (ap (λ i. lives (d.circuits.circuit_at i).end) g.circuit ∙ lv)
            (ap free (e d.circuits) ∙ fr)
            (ap (λ (z : Session). z.closed) (e d.circuits) ∙ cl))

-- a session that isn't held, or not accepted

none_cost : (xs : List Slot) → costs xs ≡ 0 → items xs ≡ []
none_cost [] h = refl
none_cost (Start to from c size service request ∷ xs) h = none_cost xs (omega (arith, h))
none_cost (DataA to from c [] ∷ xs) h = none_cost xs (omega (arith, h))
none_cost (DataA to from c (b ∷ bs) ∷ xs) h = absurd (omega (arith, h))
none_cost (DataB to from c setting ∷ xs) h = absurd (omega (arith, h))
none_cost (Attention to from flag ∷ xs) h = none_cost xs (omega (arith, h))
none_cost (Reject to from reason ∷ xs) h = none_cost xs (omega (arith, h))
none_cost (Stop to from reason ∷ xs) h = none_cost xs (omega (arith, h))

reject_gives : (x : Slot) → is_reject x ≡ true → credits_of x ≡ 0
reject_gives (Start to from c size service request) h = absurd (false≢true h)
reject_gives (DataA to from c bytes) h = absurd (false≢true h)
reject_gives (DataB to from c setting) h = absurd (false≢true h)
reject_gives (Attention to from flag) h = refl
reject_gives (Reject to from reason) h = refl
reject_gives (Stop to from reason) h = refl

none_given : (m : Bool) (s : Session) (xs : List Slot) → Shape m s xs → (s.accepted ≡ false) ⊎ (s.rejects ≡ true) → credits xs ≡ 0
none_given m s [] h n = refl
none_given m s (x ∷ xs) h n = go (is_start x) refl
  where
    go : (b : Bool) → is_start x ≡ b → credits (x ∷ xs) ≡ 0
    go true q = ⊎_elim {C = credits (x ∷ xs) ≡ 0} (λ a. absurd (true≢false (sym (h.start q).1 ∙ a))) (λ a. absurd (true≢false (sym a ∙ (h.start q).2))) n
    go false q = let r : (is_reject x ≡ true) × (s.rejects ≡ true) × (xs ≡ []) = h.reject q in omega (arith, reject_gives x r.0, ap credits r.2)

unspent : (m : Bool) (ceiling : ℕ) (s : Session) → SessionOk m s → Accounts ceiling s → (s.accepted ≡ false) ⊎ (s.rejects ≡ true) → All_out s
unspent m ceiling s ok a n =
    let e : items s.came ≡ [] = none_cost s.came (omega (arith, a.spent, none_given m s s.out ok.shape n)) in
    let l : length (items s.came) ≡ 0 = ap length e in
    omega (arith, l)

-- what is rejected came alone
turned_shape : (b : Bool) (z : Session) (xs ys : List Slot) → turned xs ≡ true → Shape b z (xs ++ ys) → items xs ≡ []
turned_shape b z [] ys t h = refl
turned_shape b z (Start to from c size service request ∷ xs) ys t h = absurd (false≢true t)
turned_shape b z (DataA to from c bytes ∷ xs) ys t h = absurd (false≢true t)
turned_shape b z (DataB to from c setting ∷ xs) ys t h = absurd (false≢true t)
turned_shape b z (Attention to from flag ∷ xs) ys t h = absurd (false≢true t)
turned_shape b z (Stop to from reason ∷ xs) ys t h = absurd (false≢true t)
turned_shape b z (Reject to from reason ∷ []) ys t h = refl
turned_shape b z (Reject to from reason ∷ y ∷ xs) ys t h = absurd (some (h.reject refl).2)
  where
    some : y ∷ xs ++ ys ≡ [] → ⊥
    some q = cc

not_both : (xs : List Slot) → starts xs ≡ true → turned xs ≡ true → ⊥
not_both [] a b = false≢true a
not_both (Start to from c size service request ∷ xs) a b = false≢true b
not_both (DataA to from c bytes ∷ xs) a b = false≢true a
not_both (DataB to from c setting ∷ xs) a b = false≢true a
not_both (Attention to from flag ∷ xs) a b = false≢true a
not_both (Reject to from reason ∷ xs) a b = false≢true a
not_both (Stop to from reason ∷ xs) a b = false≢true a

turned_master : (m s : Sessions) (up down : List TaggedSlot) → Joined m s up down → (k : ℕ) → turned (m.session k).came ≡ true → All_out (m.session k)
turned_master m s up down j k t = go (nat_eq (m.session k).generation 0) refl
  where
    v : Session
    v = m.session k

    go : (b : Bool) → nat_eq v.generation 0 ≡ b → All_out v
    go true q = none_waits v (j.quiet_up k (eqb-true v.generation 0 q))
    go false q =
        let g : ℕ = v.generation in
        let named : of_generation m g ≡ v = ap m.session (j.master_ok.serial_found k (eqb-false g 0 q)) in
        let out : (of_generation s g).out ≡ v.came ++ slots_of g down = j.flow_down.at_generation g ∙ ap (λ (z : Session). z.came ++ slots_of g down) named in
        let e : items v.came ≡ [] = turned_shape s.master (of_generation s g) v.came (slots_of g down) t (subst (Shape s.master (of_generation s g)) out (j.slave_ok.each (s.serial_of g)).shape) in
        let l : length (items v.came) ≡ 0 = ap length e in
        omega (arith, l)

turned_slave : (m s : Sessions) (up down : List TaggedSlot) → Joined m s up down → (k : ℕ) → turned (s.session k).came ≡ true → All_out (s.session k)
turned_slave m s up down j k t = go (nat_eq v.generation 0) refl
  where
    v : Session
    v = s.session k

    go : (b : Bool) → nat_eq v.generation 0 ≡ b → All_out v
    go true q = none_waits v (j.quiet_down k (eqb-true v.generation 0 q))
    go false q = absurd (not_both v.came ((j.slave_ok.each k).asked j.slave (eqb-false v.generation 0 q)) t)

free_open : (s : Session) → free s ≡ true → s.closed ≡ false → (s.rejects ≡ true) ⊎ ((turned s.came ≡ true) ⊎ All_out s)
free_open s f c = go s.rejects (turned s.came) (stopped s) s.closed (nat_le (length (items s.came)) s.taken) refl f c
  where
    go : (a b st d e : Bool) → nat_le (length (items s.came)) s.taken ≡ e → ((a || b) || (st && (d || e))) ≡ true → d ≡ false → (a ≡ true) ⊎ ((b ≡ true) ⊎ All_out s)
    go true b st d e q h n = inl refl
    go false true st d e q h n = inr (inl refl)
    go false false true true e q h n = absurd (true≢false n)
    go false false true false true q h n = inr (inr (leb-true (length (items s.came)) s.taken q))
    go false false true false false q h n = absurd (false≢true h)
    go false false false d e q h n = absurd (false≢true h)

abbrev Held_out : Session → Type 0
Held_out s = free s ≡ false → s.closed ≡ false → s.accepted ≡ true → All_out s

all_out : (m : Bool) (ceiling : ℕ) (s : Session) → SessionOk m s → Accounts ceiling s → (turned s.came ≡ true → All_out s) → Held_out s → s.closed ≡ false → All_out s
all_out m ceiling s ok a t h c = go (free s) refl s.accepted refl
  where
    go : (f : Bool) → free s ≡ f → (b : Bool) → s.accepted ≡ b → All_out s
    go false q true r = h q c r
    go false q false r = unspent m ceiling s ok a (inl r)
    go true q b r = ⊎_elim {C = All_out s} (λ z. unspent m ceiling s ok a (inr z)) (λ z. ⊎_elim {C = All_out s} t (λ y. y) z) (free_open s q c)

master_taken : (m s : Sessions) (up down : List TaggedSlot) → Joined m s up down → ((k : ℕ) → Held_out (m.session k)) → AllTaken m
master_taken m s up down j h k c = all_out m.master m.ceiling (m.session k) (j.master_ok.each k) (j.master_ok.accounts k) (turned_master m s up down j k) (h k) c

slave_taken : (m s : Sessions) (up down : List TaggedSlot) → Joined m s up down → ((k : ℕ) → Held_out (s.session k)) → AllTaken s
slave_taken m s up down j h k c = all_out s.master s.ceiling (s.session k) (j.slave_ok.each k) (j.slave_ok.accounts k) (turned_slave m s up down j k) (h k) c

-- both sides of a circuit

abbrev end_sessions : Machines → Bool → ℕ → Sessions
end_sessions w b x = sess (core_of w b).circuits x

-- what holds of a circuit p and its slave q before the take phase, and behind it
pub record Taking (u : Setups) (w : Machines) (p : ℕ) (q : ℕ) : Type 0 where
  pub sessions : 0 < u.server.timing.sessions
  pub seated : BothSeated u w
  pub up : List TaggedSlot
  pub down : List TaggedSlot
  pub joined : Joined (end_sessions w true p) (end_sessions w false q) up down
  pub master : Plain (end_sessions w true p)
  pub slave : Plain (end_sessions w false q)
  pub master_low : (end_sessions w true p).ceiling ≤ 15
  pub slave_low : (end_sessions w false q).ceiling ≤ 15
  pub master_drawn : is_drawn w.server.core.circuits p ≡ true
  pub slave_drawn : is_drawn w.node.core.circuits q ≡ true
  pub up_after : List TaggedSlot
  pub down_after : List TaggedSlot
  pub joined_after : Joined (end_sessions (take_both u w) true p) (end_sessions (take_both u w) false q) up_after down_after
  pub master_lives : lives ((take_both u w).server.core.circuits.circuit_at p).end ≡ true
  pub slave_lives : lives ((take_both u w).node.core.circuits.circuit_at q).end ≡ true

pub all_taken : (u : Setups) (w : Machines) (p q : ℕ) → Taking u w p q → AllTaken (end_sessions (take_both u w) true p) × AllTaken (end_sessions (take_both u w) false q)
all_taken u w p q t = (master_taken (end_sessions d true p) (end_sessions d false q) t.up_after t.down_after t.joined_after up, slave_taken (end_sessions d true p) (end_sessions d false q) t.up_after t.down_after t.joined_after down)
  where
    d : Machines
    d = take_both u w

    mid : Machines
    mid = take_lines u true (upwards 0 u.server.lines) w

    here : core_of d true ≡ core_of mid true
    here = take_lines_other u false (upwards 0 u.node.lines) mid

    there : core_of mid false ≡ core_of w false
    there = take_lines_other u true (upwards 0 u.server.lines) w

    up : (k : ℕ) → Held_out ((end_sessions d true p).session k)
    up k = subst (λ (c : Core). Held_out ((sess c.circuits p).session k)) (sym here) (λ f c a. side_takes u true w p t.sessions t.seated t.joined.master_ok (few_master (end_sessions w true p) (end_sessions w false q) t.up t.down t.joined t.slave t.master_low) t.master_drawn (ap (λ (c : Core). lives (c.circuits.circuit_at p).end) (sym here) ∙ t.master_lives) k f c a)

    down : (k : ℕ) → Held_out ((end_sessions d false q).session k)
    down k f c a = side_takes u false mid q t.sessions (take_lines_seated u true (upwards 0 u.server.lines) w t.sessions t.seated) (subst (λ (c : Core). EndOk (sess c.circuits q)) (sym there) t.joined.slave_ok) (λ k. subst (λ (c : Core). Waits_few ((sess c.circuits q).session k)) (sym there) (few_slave (end_sessions w true p) (end_sessions w false q) t.up t.down t.joined t.master t.slave_low k)) (subst (λ (c : Core). is_drawn c.circuits q ≡ true) (sym there) t.slave_drawn) t.slave_lives k f c a
