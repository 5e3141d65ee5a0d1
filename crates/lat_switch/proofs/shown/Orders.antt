-- All that was shown of a session, in order.
use Rattle.std.proofs.Common.{◌≡◌, ℕ, zero, suc, ◌+◌, ◌≤◌, ◌<◌, refl, sym, ap, ap₂, ◌∙◌, subst, Bool, true, false, cond, ◌&&◌, List, [], ◌∷◌, ◌++◌, map, fold, take, drop, length, length-append, arith, append_assoc, nat_eq, eqb-true}
use Rattle.std.proofs.lemmas.Bool.{true≢false, false≢true}
use Rattle.std.proofs.lemmas.List.{take-append-le, length-take, map-append}
use Rattle.lat_base.specs.declared.answer.Answer as base
use Rattle.lat_base.specs.declared.answer.Answer.TheVariants as answers
use Rattle.lat_base.specs.declared.event.Event.{Event}
use Rattle.lat_base.specs.declared.event.Event.TheVariants as events
use Rattle.lat_base.specs.declared.item.Item as base_item
use Rattle.lat_model.specs.Lists.{Each}
use Rattle.lat_model.specs.sessions.Slots.{Item}
use Rattle.lat_machines.specs.cores.Cores.{Seat}
use Rattle.lat_machines.specs.cores.Lines.{session_of, has_session, line_exists}
use Rattle.lat_machines.specs.server.Server.{ServerConfig, Server, open_server}
use Rattle.lat_laws.specs.rounds.Seated.{IsSeat}
use Rattle.lat_stream.specs.Kept.{item_of}
use Rattle.lat_laws.specs.tales.Items.{taken_of}
use Rattle.lat_laws.proofs.tales.steps.Goes.{void_good}
use Rattle.lat_laws.proofs.tales.seats.Sound.{Sound}
use Rattle.lat_server.specs.Stands as server
use Rattle.lat_switch.specs.declared.piece.Piece.{Piece}
use Rattle.lat_switch.specs.declared.piece.Piece.TheVariants as pieces
use Rattle.lat_switch.specs.declared.config.SwitchConfig.{SwitchConfig}
use Rattle.lat_switch.specs.Config.{IsConfig, open_switch}
use Rattle.lat_switch.specs.Lines.{shows_next}
use Rattle.lat_switch.specs.Switch.{Switch, line_on, Course, begins, tells, answer_to, Step, refuses, relays}
use Rattle.lat_switch.specs.Pieces.{pieces_of, is_key}
use Rattle.lat_switch.specs.Calls.{connects, closes}
use Rattle.lat_switch.specs.Reading.{Reading, starts, accepted, is_closed, put_on, reads_run, reads, reads_piece, reads_all, read_answer, puts, puts_pieces}
use Rattle.lat_switch.specs.Steps.{switch_step}
use Rattle.lat_switch.specs.Core.{next}
use Rattle.lat_switch.specs.Runs.{switch_run}
use Rattle.lat_switch.specs.Shown.{IsInOrder, is_shown, items_in, gives, given, bytes_for, receives, received, bytes_in}
use Rattle.lat_switch.proofs.shown.Sessions.{Gets, gets_none, gets_then}
use Rattle.lat_switch.proofs.shown.Flat.{flat, bytes_of, Stand, flat_of, stand_of, flat-append, stand_run}
use Rattle.lat_switch.proofs.shown.Tellings.{Told, told_begins, told_nothing, told_put, told_set, told_take, told_changes, told_connects, told_own, told_closes, bytes-append}
use Rattle.lat_switch.proofs.shown.Consuming.{none_accepted, most_accepted, IsReading, shown_before, run_goes, goes, key, fold-append, nil, take_none, take_all}

-- once reading has ended
ended : (k : ℕ) (ps : List Piece) (r : Reading) → r.goes_on ≡ false → fold (reads k) r ps ≡ r
ended k [] r e = refl
ended k (p ∷ ps) r e = ap (λ z. fold (reads k) z ps) (stays r p e) ∙ ended k ps r e
  where
    stays : (r : Reading) (p : Piece) → r.goes_on ≡ false → reads k r p ≡ r
    stays r p e = ap (λ b. cond b (reads_piece k r p) r) e

-- the rest of a reading: how many bytes more it consumes, and what the session x gets of them
pub record Consumes (x : Seat) (k : ℕ) (s : Switch) (front back : List Piece) (r : Reading) (bytes : List ℕ) : Type 0 where
  pub more : ℕ
  pub count : (fold (reads k) r back).count ≡ r.count + more
  pub most : more ≤ length (flat back)
  pub told : Told x s.inner (fold (reads k) r back).course (bytes ++ bytes_for x k s (flat front) (take more (flat back))) []

split_at : (n : ℕ) (xs : List ℕ) → take n xs ++ drop n xs ≡ xs
split_at zero [] = refl
split_at zero (x ∷ xs) = refl
split_at (suc n) [] = refl
split_at (suc n) (x ∷ xs) = ap (λ z. x ∷ z) (split_at n xs)

take_past : (xs ys : List ℕ) (n m : ℕ) → m ≡ length xs + n → take m (xs ++ ys) ≡ xs ++ take n ys
take_past [] ys n m e = ap (λ z. take z ys) (let q : m ≡ n = omega (arith, e) in q)
take_past (x ∷ xs) ys n zero e = absurd (omega (arith, e))
take_past (x ∷ xs) ys n (suc m) e = ap (λ z. x ∷ z) (take_past xs ys n m (omega (arith, e)))

plain_part : (xs ys : List ℕ) → Each (λ y. is_key y ≡ false) (xs ++ ys) → Each (λ y. is_key y ≡ false) xs
plain_part [] ys h = tt
plain_part (x ∷ xs) ys h = (h.0, plain_part xs ys h.1)

-- one piece more in front

next_front : (k : ℕ) (s : Switch) (front : List Piece) (p : Piece) (r : Reading) → IsReading k s front r
    → reads k r p ≡ fold (reads k) (starts (begins s)) (front ++ p ∷ [])
next_front k s front p r h = ap (λ z. reads k z p) h.is ∙ sym (fold-append k front (p ∷ []) (starts (begins s)))

-- the first bytes of a run, those that are accepted
abbrev taken_in : ℕ → List ℕ → Course → ℕ
taken_in k rs c = accepted (answer_to (put_on k rs c) c)

abbrev part : ℕ → List ℕ → Course → List ℕ
part k rs c = take (taken_in k rs c) rs

module _ (x : Seat) (k : ℕ) (s : Switch) (exists : line_exists (length s.lines) k ≡ true) where
  -- what a run puts, whatever stands behind it
  run_part : (front : List Piece) (rs : List ℕ) (back : List Piece) (r : Reading) (rest : List ℕ)
      → Stand false (front ++ pieces.Run rs ∷ back) → length (flat (front ++ pieces.Run rs ∷ back)) ≤ 65535 → IsReading k s front r
      → bytes_for x k s (flat front) (part k rs r.course ++ rest)
      ≡ cond (is_shown x k r.course.state) (part k rs r.course) [] ++ bytes_for x k s (flat front ++ part k rs r.course) rest
  run_part front rs back r rest stand most h =
      ap (λ z. bytes_for x k s z (take n rs ++ rest)) (sym (nil (flat front)))
      ∙ run_goes x k s (flat front) [] (take n rs) rest (is_shown x k r.course.state)
      (plain_part (take n rs) (drop n rs) (subst (Each (λ y. is_key y ≡ false)) (sym (split_at n rs)) (stand_run false front rs back stand).1))
      (λ some more e l. at some more e l (has_session r.course.state.inner.state.core (line_on k r.course.state).shown) refl)
    where
      n : ℕ
      n = taken_in k rs r.course

      at : (some more : List ℕ) → some ++ more ≡ part k rs r.course → 0 < length more → (b : Bool)
          → has_session r.course.state.inner.state.core (line_on k r.course.state).shown ≡ b
          → is_shown x k (next s (events.Put k (flat front ++ some))) ≡ is_shown x k r.course.state
      at some more e l false q =
          let none : n ≡ 0 = none_accepted r.course.state.inner (line_on k r.course.state).shown rs q in
          absurd (omega (arith, l, ap length e, length-append some more, length-take n rs, none))
      at some more e l true q =
          let all : some ++ (more ++ drop n rs) ≡ rs = sym (append_assoc some more (drop n rs)) ∙ ap (λ z. z ++ drop n rs) e ∙ split_at n rs in
          shown_before x k s front r some (more ++ drop n rs) back exists
          (subst (λ z. Stand false (front ++ pieces.Run z ∷ back)) (sym all) stand)
          (subst (λ z. length (flat (front ++ pieces.Run z ∷ back)) ≤ 65535) (sym all) most)
          h q

  -- a run, where the rest is known
  run_consumes : (rs : List ℕ) (back front : List Piece) (r : Reading) (bytes : List ℕ) → Stand false (front ++ pieces.Run rs ∷ back)
      → length (flat (front ++ pieces.Run rs ∷ back)) ≤ 65535 → IsReading k s front r → Told x s.inner r.course bytes []
      → ((later : Reading) (more : List ℕ) → IsReading k s (front ++ pieces.Run rs ∷ []) later → Told x s.inner later.course more []
      → Consumes x k s (front ++ pieces.Run rs ∷ []) back later more)
      → Consumes x k s front (pieces.Run rs ∷ back) r bytes
  run_consumes rs back front r bytes stand most h t others = by (nat_eq (taken_in k rs r.course) (length rs)) refl
    where
      n : ℕ
      n = taken_in k rs r.course

      b : Bool
      b = is_shown x k r.course.state

      e : reads k r (pieces.Run rs) ≡ reads_run k r rs
      e = goes k r (pieces.Run rs) h.goes_on

      fits : taken_in k rs r.course ≤ length rs
      fits = most_accepted r.course.state.inner (line_on k r.course.state).shown rs

      told : Told x s.inner (reads k r (pieces.Run rs)).course (bytes ++ cond (is_shown x k r.course.state) (part k rs r.course) []) []
      told =
          subst (λ (z : Reading). Told x s.inner z.course (bytes ++ cond (is_shown x k r.course.state) (part k rs r.course) []) []) (sym e)
          (told_put x s.inner (line_on k r.course.state).shown rs r.course bytes [] t)

      by : (g : Bool) → nat_eq (taken_in k rs r.course) (length rs) ≡ g → Consumes x k s front (pieces.Run rs ∷ back) r bytes
      by true q =
          let all : n ≡ length rs = eqb-true n (length rs) q in
          let whole : take n rs ≡ rs = take_all n rs (omega (arith, all)) in
          let next_one : IsReading k s (front ++ pieces.Run rs ∷ []) (reads k r (pieces.Run rs)) =
          record { is = next_front k s front (pieces.Run rs) r h; goes_on = ap (λ (z : Reading). z.goes_on) e ∙ q; offers = told.tells.offers } in
          let rest : Consumes x k s (front ++ pieces.Run rs ∷ []) back (reads k r (pieces.Run rs)) (bytes ++ cond b (take n rs) []) =
          others (reads k r (pieces.Run rs)) (bytes ++ cond b (take n rs) []) next_one told in
          let behind : flat (front ++ pieces.Run rs ∷ []) ≡ flat front ++ take n rs =
          flat-append front (pieces.Run rs ∷ []) ∙ ap (λ z. flat front ++ z) (nil rs ∙ sym whole) in
          let left : List ℕ = take rest.more (flat back) in
          let same : take (n + rest.more) (rs ++ flat back) ≡ take n rs ++ left =
          take_past rs (flat back) rest.more (n + rest.more) (omega (arith, all)) ∙ ap (λ z. z ++ left) (sym whole) in
          let items : (bytes ++ cond b (take n rs) []) ++ bytes_for x k s (flat (front ++ pieces.Run rs ∷ [])) left
          ≡ bytes ++ bytes_for x k s (flat front) (take (n + rest.more) (rs ++ flat back)) =
          append_assoc bytes (cond b (take n rs) []) (bytes_for x k s (flat (front ++ pieces.Run rs ∷ [])) left)
          ∙ ap (λ z. bytes ++ (cond b (take n rs) [] ++ bytes_for x k s z left)) behind
          ∙ ap (λ z. bytes ++ z) (sym (run_part front rs back r left stand most h))
          ∙ ap (λ z. bytes ++ bytes_for x k s (flat front) z) (sym same) in
          record {
            more = n + rest.more;
            count = omega (arith, rest.count, ap (λ (z : Reading). z.count) e);
            most = omega (arith, rest.most, all, length-append rs (flat back));
            told = subst (λ z. Told x s.inner (fold (reads k) (reads k r (pieces.Run rs)) back).course z []) items rest.told;
          }
      by false q =
          let end : fold (reads k) (reads k r (pieces.Run rs)) back ≡ reads k r (pieces.Run rs) =
          ended k back (reads k r (pieces.Run rs)) (ap (λ (z : Reading). z.goes_on) e ∙ q) in
          let cut : take n (rs ++ flat back) ≡ take n rs = take-append-le n rs (flat back) fits in
          let items : bytes ++ cond b (take n rs) [] ≡ bytes ++ bytes_for x k s (flat front) (take n (rs ++ flat back)) =
          ap (λ z. bytes ++ z)
          (sym (nil (cond b (take n rs) []))
          ∙ sym (run_part front rs back r [] stand most h)
          ∙ ap (bytes_for x k s (flat front)) (nil (take n rs) ∙ sym cut)) in
          record {
            more = n;
            count = ap (λ (z : Reading). z.count) end ∙ ap (λ (z : Reading). z.count) e;
            most = omega (arith, fits, length-append rs (flat back));
            told =
                subst (λ (z : Reading). Told x s.inner z.course (bytes ++ bytes_for x k s (flat front) (take n (rs ++ flat back))) []) (sym end)
                (subst (λ z. Told x s.inner (reads k r (pieces.Run rs)).course z []) items told);
          }

  pub consumes : (back front : List Piece) (r : Reading) (bytes : List ℕ) → Stand false (front ++ back) → length (flat (front ++ back)) ≤ 65535
      → IsReading k s front r → Told x s.inner r.course bytes [] → Consumes x k s front back r bytes
  consumes [] front r bytes stand most h t = record {
    more = 0;
    count = omega arith;
    most = omega arith;
    told = subst (λ z. Told x s.inner r.course z []) (sym (nil bytes)) t;
  }
  consumes (pieces.Next ∷ back) front r bytes stand most h t =
      let e : reads k r pieces.Next ≡ reads_piece k r pieces.Next = goes k r pieces.Next h.goes_on in
      let told : Told x s.inner (reads k r pieces.Next).course bytes [] =
      subst (λ (z : Reading). Told x s.inner z.course bytes []) (sym e) (told_changes x s.inner k (shows_next r.course.state.inner) r.course bytes [] t) in
      let one : (front ++ pieces.Next ∷ []) ++ back ≡ front ++ pieces.Next ∷ back = append_assoc front (pieces.Next ∷ []) back in
      let next_one : IsReading k s (front ++ pieces.Next ∷ []) (reads k r pieces.Next) =
      record { is = next_front k s front pieces.Next r h; goes_on = ap (λ (z : Reading). z.goes_on) e ∙ h.goes_on; offers = told.tells.offers } in
      let rest : Consumes x k s (front ++ pieces.Next ∷ []) back (reads k r pieces.Next) bytes =
      consumes back (front ++ pieces.Next ∷ []) (reads k r pieces.Next) bytes (subst (Stand false) (sym one) stand)
      (subst (λ z. length (flat z) ≤ 65535) (sym one) most)
      next_one told in
      record {
        more = suc rest.more;
        count = omega (arith, rest.count, ap (λ (z : Reading). z.count) e);
        most = omega (arith, rest.most);
        told =
            subst (λ z. Told x s.inner (fold (reads k) (reads k r pieces.Next) back).course (bytes ++ z) [])
            (ap (λ z. bytes_for x k s z (take rest.more (flat back))) (flat-append front (pieces.Next ∷ []))
            ∙ ap (λ z. z ++ bytes_for x k s (flat front ++ 0x1d ∷ []) (take rest.more (flat back))) (sym (key x k s (flat front) 0x1d refl)))
            rest.told;
      }
  consumes (pieces.Connect ∷ back) front r bytes stand most h t =
      let e : reads k r pieces.Connect ≡ reads_piece k r pieces.Connect = goes k r pieces.Connect h.goes_on in
      let told : Told x s.inner (reads k r pieces.Connect).course bytes [] =
      subst (λ (z : Reading). Told x s.inner z.course bytes []) (sym e) (told_own x s.inner k r.course (line_on k r.course.state).service bytes [] t) in
      let end : fold (reads k) (reads k r pieces.Connect) back ≡ reads k r pieces.Connect =
      ended k back (reads k r pieces.Connect) (ap (λ (z : Reading). z.goes_on) e) in
      let none : bytes_for x k s (flat front) (take 1 (0x1c ∷ flat back)) ≡ [] =
      ap (λ z. bytes_for x k s (flat front) (0x1c ∷ z)) (take_none (flat back)) ∙ ap (λ z. z ++ []) (key x k s (flat front) 0x1c refl) in
      record {
        more = 1;
        count = ap (λ (z : Reading). z.count) end ∙ ap (λ (z : Reading). z.count) e;
        most = omega arith;
        told =
            subst (λ (z : Reading). Told x s.inner z.course (bytes ++ bytes_for x k s (flat front) (take 1 (0x1c ∷ flat back))) []) (sym end)
            (subst (λ z. Told x s.inner (reads k r pieces.Connect).course z []) (sym (ap (λ z. bytes ++ z) none ∙ nil bytes)) told);
      }
  consumes (pieces.Run rs ∷ back) front r bytes stand most h t =
      run_consumes rs back front r bytes stand most h t (λ later more reading told.
      (let one : (front ++ pieces.Run rs ∷ []) ++ back ≡ front ++ pieces.Run rs ∷ back = append_assoc front (pieces.Run rs ∷ []) back in
      consumes back (front ++ pieces.Run rs ∷ []) later more (subst (Stand false) (sym one) stand)
      (subst (λ z. length (flat z) ≤ 65535) (sym one) most)
      reading told))

-- what a put is answered

-- a put whose first byte was refused consumed nothing, and goes on no more
record IsRefused (r : Reading) : Type 0 where
  pub count : r.refused ≡ true → r.count ≡ 0
  pub ends : r.refused ≡ true → r.goes_on ≡ false

both : (a b : Bool) → (a && b) ≡ true → (a ≡ true) × (b ≡ true)
both true b h = (refl, h)
both false b h = absurd (false≢true h)

closed_takes_none : (a : base.Answer) → is_closed a ≡ true → accepted a ≡ 0
closed_takes_none answers.Closed h = refl
closed_takes_none a h = absurd (false≢true h)

not_all : (n m : ℕ) → n ≡ 0 → 0 < m → nat_eq n m ≡ false
not_all n m e l = by (nat_eq n m) refl
  where
    by : (b : Bool) → nat_eq n m ≡ b → nat_eq n m ≡ false
    by true q = absurd (let z : n ≡ m = eqb-true n m q in omega (arith, z, e, l))
    by false q = q

refused_run : (k : ℕ) (r : Reading) (rs : List ℕ) → 0 < length rs → IsRefused (reads_run k r rs)
refused_run k r rs some = record {
  count = λ h. (
      let b = both (nat_eq r.count 0) (is_closed a) h in
      let z : r.count ≡ 0 = eqb-true r.count 0 b.0 in
      omega (arith, z, closed_takes_none a b.1));
  ends = λ h. not_all (accepted a) (length rs) (closed_takes_none a (both (nat_eq r.count 0) (is_closed a) h).1) some;
}
  where
    a : base.Answer
    a = answer_to (put_on k rs r.course) r.course

no_longer : (r : Reading) → IsRefused r → r.goes_on ≡ true → r.refused ≡ true → ⊥
no_longer r h g q = true≢false (sym g ∙ h.ends q)

refused_read : (k : ℕ) (r : Reading) (p : Piece) → 0 < length (bytes_of p) → IsRefused r → (b : Bool) → r.goes_on ≡ b
    → IsRefused (cond b (reads_piece k r p) r)
refused_read k r p some h false g = h
refused_read k r (pieces.Run rs) some h true g = refused_run k r rs some
refused_read k r pieces.Next some h true g = record { count = λ q. absurd (no_longer r h g q); ends = λ q. absurd (no_longer r h g q) }
refused_read k r pieces.Connect some h true g = record { count = λ q. absurd (no_longer r h g q); ends = λ q. refl }

refused_all : (k : ℕ) (ps : List Piece) (r : Reading) (b : Bool) → Stand b ps → IsRefused r → IsRefused (fold (reads k) r ps)
refused_all k [] r b stand h = h
refused_all k (pieces.Run rs ∷ ps) r b stand h =
    refused_all k ps (reads k r (pieces.Run rs)) true stand.3 (refused_read k r (pieces.Run rs) stand.1 h r.goes_on refl)
refused_all k (pieces.Next ∷ ps) r b stand h =
    refused_all k ps (reads k r pieces.Next) false stand (refused_read k r pieces.Next (omega arith) h r.goes_on refl)
refused_all k (pieces.Connect ∷ ps) r b stand h =
    refused_all k ps (reads k r pieces.Connect) false stand (refused_read k r pieces.Connect (omega arith) h r.goes_on refl)

told_count : (r : Reading) → IsRefused r → accepted (read_answer r) ≡ r.count
told_count r h = by r.refused refl
  where
    by : (b : Bool) → r.refused ≡ b → accepted (cond b answers.Closed (answers.Put r.count)) ≡ r.count
    by true q = sym (h.count q)
    by false q = refl

-- a put

take_take : (n : ℕ) (xs : List ℕ) (m : ℕ) → n ≤ m → take n (take m xs) ≡ take n xs
take_take zero xs m l = take_none (take m xs) ∙ sym (take_none xs)
take_take (suc n) [] zero l = refl
take_take (suc n) (x ∷ xs) zero l = absurd (omega arith)
take_take (suc n) [] (suc m) l = refl
take_take (suc n) (x ∷ xs) (suc m) l = ap (λ z. x ∷ z) (take_take n xs m (omega arith))

puts_told : (x : Seat) (k : ℕ) (s : Switch) (bytes : List ℕ) (ps : List Piece) → line_exists (length s.lines) k ≡ true
    → Told x s.inner (begins s) [] [] → Stand false ps → flat ps ≡ take 65535 bytes
    → Told x s.inner (puts_pieces k (begins s) ps).course (bytes_for x k s [] (take (accepted (puts_pieces k (begins s) ps).answer) bytes)) []
puts_told x k s bytes [] exists t stand are =
    let n : ℕ = accepted (answer_to (put_on k [] (begins s)) (begins s)) in
    let none : n ≡ 0 = (let l : n ≤ length (nothing) = most_accepted s.inner (line_on k s).shown [] in omega (arith, l)) in
    let b : Bool = is_shown x k s in
    subst (λ z. Told x s.inner (tells (put_on k [] (begins s)) (begins s)) z [])
    (ap (λ m. cond b (take m []) []) none
    ∙ none_of b
    ∙ ap (bytes_for x k s []) (sym (take_none bytes))
    ∙ ap (λ m. bytes_for x k s [] (take m bytes)) (sym none))
    (told_put x s.inner (line_on k s).shown [] (begins s) [] [] t)
  where
    nothing : List ℕ
    nothing = []

    none_of : (b : Bool) → cond {A = List ℕ} b [] [] ≡ []
    none_of true = refl
    none_of false = refl
puts_told x k s bytes (p ∷ ps) exists t stand are =
    let start : Reading = starts (begins s) in
    let within : length (flat (p ∷ ps)) ≤ 65535 = omega (arith, ap length are, length-take 65535 bytes) in
    let all : Consumes x k s [] (p ∷ ps) start [] =
    consumes x k s exists (p ∷ ps) [] start [] stand within (record { is = refl; goes_on = refl; offers = t.tells.offers }) t in
    let end : Reading = reads_all k (p ∷ ps) (begins s) in
    let none : IsRefused start = record { count = λ q. absurd (false≢true q); ends = λ q. absurd (false≢true q) } in
    let refused : IsRefused end = refused_all k (p ∷ ps) start false stand none in
    let count : accepted (read_answer end) ≡ all.more = (let c : end.count ≡ 0 + all.more = all.count in omega (arith, told_count end refused, c)) in
    let few : all.more ≤ 65535 = omega (arith, all.most, within) in
    subst (λ z. Told x s.inner end.course (bytes_for x k s [] z) [])
    (ap (take all.more) are ∙ take_take all.more bytes 65535 few ∙ ap (λ m. take m bytes) (sym count))
    all.told

-- one event

-- an event of a line, where the line is there
abbrev if_there : Bool → Step → Switch → Step
if_there b t s = cond b t (refuses answers.NoLine (begins s))

put_told : (x : Seat) (k : ℕ) (s : Switch) (bytes : List ℕ) (b : Bool) → line_exists (length s.lines) k ≡ b → Told x s.inner (begins s) [] []
    → Told x s.inner (if_there b (puts k bytes (begins s)) s).course
    (bytes_for x k s [] (take (accepted (if_there b (puts k bytes (begins s)) s).answer) bytes))
    []
put_told x k s bytes true e t = puts_told x k s bytes (pieces_of (take 65535 bytes)) e t (stand_of (take 65535 bytes)) (flat_of (take 65535 bytes))
put_told x k s bytes false e t = subst (λ z. Told x s.inner (begins s) (bytes_for x k s [] z) []) (sym (take_none bytes)) t

abbrev takes : ℕ → ℕ → Switch → Step
takes k n s = relays (events.Take (line_on k s).shown n) (begins s)

take_told : (x : Seat) (k n : ℕ) (s : Switch) (b : Bool) → Told x s.inner (begins s) [] []
    → Told x s.inner (if_there b (takes k n s) s).course [] (cond (is_shown x k s) (items_in (if_there b (takes k n s) s).answer) [])
take_told x k n s true t = told_take x s.inner (line_on k s).shown n (begins s) [] [] t
take_told x k n s false t = subst (Told x s.inner (begins s) []) (sym (none_of (is_shown x k s))) t
  where
    none_of : (b : Bool) → cond {A = List base_item.Item} b [] [] ≡ []
    none_of true = refl
    none_of false = refl

-- an event of a line that puts nothing and gives nothing
line_told : (x : Seat) (s : Switch) (t : Step) (b : Bool) → Told x s.inner t.course [] [] → Told x s.inner (begins s) [] []
    → Told x s.inner (if_there b t s).course [] []
line_told x s t true done same = done
line_told x s t false done same = same

abbrev there : Switch → ℕ → Bool
there s k = line_exists (length s.lines) k

pub event_told : (x : Seat) (s : Switch) (e : Event) → Told x s.inner (begins s) [] []
    → Told x s.inner (switch_step s e).course (receives x s e) (gives x s e)
event_told x s (events.Heard from payload now) t = told_nothing x s.inner (events.Heard from payload now) (begins s) [] [] t refl refl
event_told x s (events.Time now) t = told_nothing x s.inner (events.Time now) (begins s) [] [] t refl refl
event_told x s (events.Connect k service) t =
    line_told x s (connects k service (begins s)) (there s k) (told_connects x s.inner k service (begins s) [] [] t) t
event_told x s (events.Put k bytes) t = put_told x k s bytes (there s k) refl t
event_told x s (events.Set k setting) t =
    line_told x s (relays (events.Set (line_on k s).shown setting) (begins s)) (there s k)
    (told_set x s.inner (line_on k s).shown setting (begins s) [] [] t)
    t
event_told x s (events.Take k n) t = take_told x k n s (there s k) t
event_told x s (events.Attend k flag) t =
    line_told x s (relays (events.Attend (line_on k s).shown flag) (begins s)) (there s k)
    (told_nothing x s.inner (events.Attend (line_on k s).shown flag) (begins s) [] [] t refl refl)
    t
event_told x s (events.Close k) t = line_told x s (closes k (begins s)) (there s k) (told_closes x s.inner k (begins s) [] [] t) t
event_told x s (events.Request to id service) t = t
event_told x s (events.Cancel id) t = t
event_told x s events.Announce t = t
event_told x s (events.Avoid k) t =
    line_told x s (relays (events.Avoid (line_on k s).shown) (begins s)) (there s k)
    (told_nothing x s.inner (events.Avoid (line_on k s).shown) (begins s) [] [] t refl refl)
    t
event_told x s (events.Ready k ready) t =
    line_told x s (relays (events.Ready (line_on k s).shown ready) (begins s)) (there s k)
    (told_nothing x s.inner (events.Ready (line_on k s).shown ready) (begins s) [] [] t refl refl)
    t
event_told x s events.Halt t = told_nothing x s.inner events.Halt (begins s) [] [] t refl refl

-- many events

record HasRun (x : Seat) (s : Switch) (es : List Event) : Type 0 where
  pub put : List Item
  pub took : List Item
  pub sound : Sound true (switch_run s es).inner.config.lines (switch_run s es).inner.state.core
  pub gets : Gets x s.inner.state.core (switch_run s es).inner.state.core put took
  pub bytes_are : bytes_in put ≡ received x s es
  pub items_are : map item_of took ≡ given x s es

run_told : (x : Seat) (s : Switch) (es : List Event) → Told x s.inner (begins s) [] [] → HasRun x s es
run_told x s [] t = record { put = []; took = []; sound = t.tells.sound; gets = gets_none x s.inner.state.core; bytes_are = refl; items_are = refl }
run_told x s (e ∷ es) t =
    let one : Told x s.inner (switch_step s e).course (receives x s e) (gives x s e) = event_told x s e t in
    let rest : HasRun x (next s e) es = run_told x (next s e) es (told_begins x (next s e) one.tells.sound one.tells.sessions one.tells.offers) in
    record {
      put = one.put ++ rest.put;
      took = one.took ++ rest.took;
      sound = rest.sound;
      gets =
          gets_then (switch_run (next s e) es).inner.config.lines x
          s.inner.state.core (next s e).inner.state.core (switch_run (next s e) es).inner.state.core
          one.put one.took rest.put rest.took rest.sound one.tells.gets rest.gets;
      bytes_are = bytes-append one.put rest.put ∙ ap₂ (λ y z. y ++ z) one.bytes_are rest.bytes_are;
      items_are = map-append item_of one.took rest.took ∙ ap₂ (λ y z. y ++ z) one.items_are rest.items_are;
    }

-- from the switch as it is opened

open_sound : (config : ServerConfig) → Sound true config.lines (open_server config).core
open_sound config = record {
  seated = record {
    good = record {
      masters = λ x. refl;
      new = λ k l. refl;
      found = λ x. record {
        made = λ i. omega arith;
        named = λ i n. absurd (n refl);
        none = refl;
        held = λ k q. absurd (false≢true q);
        asked = λ q. absurd (true≢false q);
        agreed = omega arith;
        holds = λ k q. absurd (true≢false q);
        within = λ i q. refl;
      };
      held = λ x k q. absurd (false≢true q);
    };
    seat = λ x k l f a. absurd (false≢true a);
    placed = λ s i. absurd i;
    last = λ s i o. absurd i;
    every = λ x k a. absurd (false≢true a);
    all = λ m x k p l. absurd (omega (arith, p, l));
  };
  rest = record { good = λ x. void_good true _ _; distinct = tt; ours = λ s i. absurd i; named = λ m x i. refl };
}

record IsOpened (s : Switch) : Type 0 where
  pub inner : server.IsMade s.inner
  pub offers : s.inner.config.offers ≡ []
  pub sessions : 0 < s.inner.config.timing.sessions

opened_in_order : (s : Switch) (es : List Event) (x : Seat) → IsOpened s → IsSeat x (switch_run s es).inner.state.core.seats → IsInOrder s es x
opened_in_order s es x h i = record { taken = sym run.items_are ∙ ap (map item_of) (sym last.1); put = sym run.bytes_are ∙ ap bytes_in (sym last.0) }
  where
    sound : Sound true s.inner.config.lines s.inner.state.core
    sound = subst (λ (z : Server). Sound true s.inner.config.lines z.core) (sym h.inner) (open_sound s.inner.config)

    run : HasRun x s es
    run = run_told x s es (told_begins x s sound h.sessions h.offers)

    seats_are : (switch_run s es).inner.state.core.seats ≡ run.gets.more
    seats_are = run.gets.seats ∙ ap (λ z. z ++ run.gets.more) (ap (λ (z : Server). z.core.seats) h.inner)

    last : ((session_of (switch_run s es).inner.state.core x).put ≡ run.put) × (taken_of (session_of (switch_run s es).inner.state.core x) ≡ run.took)
    last = run.gets.new (subst (IsSeat x) seats_are i)

pub in_order : (config : SwitchConfig) (es : List Event) (x : Seat) → IsConfig config
    → IsSeat x (switch_run (open_switch config) es).inner.state.core.seats → IsInOrder (open_switch config) es x
in_order config es x h i = opened_in_order (open_switch config) es x (record { inner = refl; offers = refl; sessions = some }) i
  where
    some : 0 < config.timing.sessions
    some = (let l : 1 ≤ config.timing.sessions = h.timing.sessions.0 in omega (arith, l))
