-- What one event of a machine leaves of its line sessions: the line that it names gets the items that the answer tells.
use Rattle.std.proofs.Common.{◌≡◌, ℕ, ◌+◌, ◌-◌, ◌<◌, ◌≤◌, refl, sym, ap, ap₂, ◌∙◌, subst, arith, Bool, true, false, cond, ◌&&◌, List, [], ◌∷◌, ◌++◌, map, length, take, drop, min, nat_lt}
use Rattle.std.proofs.Math.Seq.{take-add}
use Rattle.lat_model.specs.sessions.Slots.{Item, Byte, Setting, items}
use Rattle.lat_model.specs.sessions.Session.{Session, put_open, take_open, unframed}
use Rattle.lat_model.specs.sessions.Sessions.{Sessions}
use Rattle.lat_model.specs.sessions.Calls.{Put, Set, Take, touch, put_items, put_count, take_count, took}
use Rattle.lat_model.specs.Lists.{Each}
use Rattle.lat_machines.specs.values.Answers.{Answer, Accepted, Took, Done, Closed, Full}
use Rattle.lat_machines.specs.values.Events.{Event, Hears, Time, Connects, Puts, Sets, Takes, Attends, Closes, Requests, Withdraws, Announces, Avoids, Readies, Halts}
use Rattle.lat_machines.specs.cores.Cores.{Seat, Core, Side}
use Rattle.lat_machines.specs.cores.Lines.{session_of, sessions_of, over, seat_at}
use Rattle.lat_machines.specs.cores.LineCalls.{says, calls_on, put_on, set_on, take_on, on_line}
use Rattle.lat_machines.specs.server.Server.{ServerConfig, Server, server_side, server_event, server_step}
use Rattle.lat_machines.specs.node.Node.{NodeConfig, Node, node_side, node_step}
use Rattle.lat_laws.specs.rounds.Seated.{IsSeat}
use Rattle.lat_laws.specs.tales.Items.{taken_of, line_of, accepted_bytes, accepted_setting, put_by, taken_items, taken_by}
use Rattle.lat_laws.proofs.tales.steps.Tables.{sess, turned_same}
use Rattle.lat_laws.proofs.tales.seats.Sound.{Sound, IsNew, IsFirst, Fresh}
use Rattle.lat_laws.proofs.tales.seats.Steps.{server_fresh, passed_fresh, node_fresh}
use Rattle.lat_laws.proofs.tales.seats.Follows.{Follows, follows_then, turned_follows}
use Rattle.lat_laws.proofs.tales.seats.Calls.{Told, told_none, told_touch, line_told, told_cond, id_leads}

abbrev no_items : Answer → List Item
no_items a = []

append_nil : {A : Type 0} → (xs : List A) → xs ++ [] ≡ xs
append_nil [] = refl
append_nil (x ∷ xs) = ap (λ z. x ∷ z) (append_nil xs)

module _ (k : Side) (lines : ℕ) (c : Core) (h : Sound k.server lines c) (line : ℕ) (n : IsSeat (seat_at c line) c.seats) (o : over c (seat_at c line) ≡ false) where
  abbrev s : Seat
  s = seat_at c line

  abbrev e : Sessions
  e = sess c.circuits (seat_at c line).circuit

  leads : e.at_id s.id ≡ s.serial
  leads = id_leads k.server lines c s h n o

  put_touch : (bytes : List ℕ) → Told k.server lines c line (accepted_bytes bytes) no_items (put_on k c (seat_at c line) bytes)
  put_touch bytes = told_cond k.server lines c line (accepted_bytes bytes) no_items (put_open (session_of c s)) _ _ yes (λ q. told_none k.server lines c line (accepted_bytes bytes) no_items Closed h refl refl)
    where
      xs : List Item
      xs = map Byte (take (put_count (session_of c s) (length bytes)) bytes)

      yes : put_open (session_of c s) ≡ true → Told k.server lines c line (accepted_bytes bytes) no_items (says (calls_on k c s (Put s.id bytes)) (Accepted (put_count (session_of c s) (length bytes))))
      yes q = told_touch k lines c line (accepted_bytes bytes) no_items (Accepted (put_count (session_of c s) (length bytes))) (Put s.id bytes) (put_items (session_of c s) xs) h n o
          (record {
            called = ap (λ j. cond (put_open (e.session j)) (touch e j (put_items (e.session j) (map Byte (take (put_count (e.session j) (length bytes)) bytes)))) e) leads ∙ ap (λ b. cond b (touch e s.serial (put_items (session_of c s) xs)) e) q;
            id = refl;
            came = refl;
            accepted = refl;
            rejects = refl;
            generation = refl;
            within = (h.rest.good s.circuit).within s.serial;
            none_accepted = refl;
            none_connected = tt;
          })
          refl (sym (append_nil (taken_of (session_of c s))))

  set_touch : (setting : List ℕ) → Told k.server lines c line (accepted_setting setting) no_items (set_on k c (seat_at c line) setting)
  set_touch setting =
      told_cond k.server lines c line (accepted_setting setting) no_items (put_open (session_of c s)) _ _
      (λ q. told_cond k.server lines c line (accepted_setting setting) no_items (nat_lt (length (unframed (session_of c s))) 4096) _ _ (λ r. yes q r) (λ r. told_none k.server lines c line (accepted_setting setting) no_items Full h refl refl))
      (λ q. told_none k.server lines c line (accepted_setting setting) no_items Closed h refl refl)
    where
      new : Session
      new = put_items (session_of c s) (Setting setting ∷ [])

      yes : put_open (session_of c s) ≡ true → nat_lt (length (unframed (session_of c s))) 4096 ≡ true → Told k.server lines c line (accepted_setting setting) no_items (says (calls_on k c s (Set s.id setting)) Done)
      yes q r = told_touch k lines c line (accepted_setting setting) no_items Done (Set s.id setting) new h n o
          (record {
            called = ap (λ j. cond (put_open (e.session j) && nat_lt (length (unframed (e.session j))) 4096) (touch e j (put_items (e.session j) (Setting setting ∷ []))) e) leads ∙ ap₂ (λ a b. cond (a && b) (touch e s.serial new) e) q r;
            id = refl;
            came = refl;
            accepted = refl;
            rejects = refl;
            generation = refl;
            within = (h.rest.good s.circuit).within s.serial;
            none_accepted = refl;
            none_connected = tt;
          })
          refl (sym (append_nil (taken_of (session_of c s))))

  take_touch : (m : ℕ) → Told k.server lines c line no_items taken_items (take_on k c (seat_at c line) m)
  take_touch m = told_cond k.server lines c line no_items taken_items (take_open (session_of c s)) _ _ yes (λ q. told_none k.server lines c line no_items taken_items Closed h refl refl)
    where
      v : Session
      v = session_of c s

      new : Session
      new = record v { taken = v.taken + take_count v m }

      within : v.taken ≤ length (items v.came) → v.taken + min m (length (items v.came) - v.taken) ≤ length (items v.came)
      within l = omega (arith, l)

      yes : take_open (session_of c s) ≡ true → Told k.server lines c line no_items taken_items (says (calls_on k c s (Take s.id m)) (Took (took (sessions_of c s) s.id m)))
      yes q = told_touch k lines c line no_items taken_items (Took (took (sessions_of c s) s.id m)) (Take s.id m) new h n o
          (record {
            called = ap (λ j. cond (take_open (e.session j)) (touch e j (record (e.session j) { taken = (e.session j).taken + take_count (e.session j) m })) e) leads ∙ ap (λ b. cond b (touch e s.serial new) e) q;
            id = refl;
            came = refl;
            accepted = refl;
            rejects = refl;
            generation = refl;
            within = within ((h.rest.good s.circuit).within s.serial);
            none_accepted = refl;
            none_connected = tt;
          })
          (sym (append_nil v.put))
          (take-add v.taken (take_count v m) (items v.came) ∙ ap (λ j. taken_of v ++ take (take_count (e.session j) m) (drop (e.session j).taken (items (e.session j).came))) (sym leads))

-- The whole event. Sessions that were there get what the answer tells of the event's line; behind them stand the new ones
pub record Tale (m : Bool) (lines : ℕ) (c : Core) (d : Core) (e : Event) (a : Answer) : Type 0 where
  pub sound : Sound m lines d
  pub more : List Seat
  pub seats : d.seats ≡ c.seats ++ more
  pub new : Each (IsNew d) more
  pub first : m ≡ false → Each (λ s. IsFirst (session_of d s)) more
  pub own : (s : Seat) → IsSeat s c.seats → s ≡ seat_at c (line_of e) → Follows c d s (put_by e a) (taken_by e a)
  pub other : (s : Seat) → IsSeat s c.seats → (s ≡ seat_at c (line_of e) → ⊥) → Follows c d s [] []

fresh_tale : (m : Bool) (lines : ℕ) (c d : Core) (e : Event) (a : Answer) → put_by e a ≡ [] → taken_by e a ≡ [] → Sound m lines c → Fresh m lines c d → Tale m lines c d e a
fresh_tale m lines c d e a p q h f = record {
  sound = f.sound;
  more = f.more;
  seats = f.seats;
  new = f.new;
  first = f.first;
  own = λ s i r. subst (λ z. Follows c d s z (taken_by e a)) (sym p) (subst (Follows c d s []) (sym q) (turned_follows m lines c d s h i f.table));
  other = λ s i r. turned_follows m lines c d s h i f.table;
}

told_tale : (m : Bool) (lines : ℕ) (c b d : Core) (e : Event) (a : Answer) → b.seats ≡ c.seats → Sound m lines b → ((s : Seat) → IsSeat s c.seats → s ≡ seat_at c (line_of e) → Follows c b s (put_by e a) (taken_by e a)) → ((s : Seat) → IsSeat s c.seats → (s ≡ seat_at c (line_of e) → ⊥) → Follows c b s [] []) → Fresh m lines b d → Tale m lines c d e a
told_tale m lines c b d e a q h own other f = record {
  sound = f.sound;
  more = f.more;
  seats = f.seats ∙ ap (λ z. z ++ f.more) q;
  new = f.new;
  first = f.first;
  own = λ s i r. follows_then c b d s (put_by e a) (taken_by e a) (own s i r) (turned_follows m lines b d s h (subst (IsSeat s) (sym q) i) f.table);
  other = λ s i r. follows_then c b d s [] [] (other s i r) (turned_follows m lines b d s h (subst (IsSeat s) (sym q) i) f.table);
}

pub server_tale : (config : ServerConfig) (st : Server) (e : Event) → 0 < config.timing.sessions → Sound true config.lines st.core → Tale true config.lines st.core (server_step config st e).state.core e (server_step config st e).answer
server_tale config st (Hears from payload k now) pos h = fresh_tale true config.lines st.core _ (Hears from payload k now) _ refl refl h (server_fresh config st (Hears from payload k now) pos tt h)
server_tale config st (Time now) pos h = fresh_tale true config.lines st.core _ (Time now) _ refl refl h (server_fresh config st (Time now) pos tt h)
server_tale config st (Connects line service) pos h = fresh_tale true config.lines st.core _ (Connects line service) _ refl refl h (server_fresh config st (Connects line service) pos tt h)
server_tale config st (Puts line bytes) pos h =
    let t : Told true config.lines st.core line (accepted_bytes bytes) no_items (on_line config.lines st.core line (λ s. put_on (server_side config) st.core s bytes)) = line_told true config.lines st.core line (accepted_bytes bytes) no_items (λ s. put_on (server_side config) st.core s bytes) h refl refl refl refl (λ n o. put_touch (server_side config) config.lines st.core h line n o bytes) in
    told_tale true config.lines st.core (server_event config st (Puts line bytes)).state.core _ (Puts line bytes) _ t.seats t.sound t.own t.other (passed_fresh config st (Puts line bytes) pos t.sound)
server_tale config st (Sets line setting) pos h =
    let t : Told true config.lines st.core line (accepted_setting setting) no_items (on_line config.lines st.core line (λ s. set_on (server_side config) st.core s setting)) = line_told true config.lines st.core line (accepted_setting setting) no_items (λ s. set_on (server_side config) st.core s setting) h refl refl refl refl (λ n o. set_touch (server_side config) config.lines st.core h line n o setting) in
    told_tale true config.lines st.core (server_event config st (Sets line setting)).state.core _ (Sets line setting) _ t.seats t.sound t.own t.other (passed_fresh config st (Sets line setting) pos t.sound)
server_tale config st (Takes line m) pos h =
    let t : Told true config.lines st.core line no_items taken_items (on_line config.lines st.core line (λ s. take_on (server_side config) st.core s m)) = line_told true config.lines st.core line no_items taken_items (λ s. take_on (server_side config) st.core s m) h refl refl refl refl (λ n o. take_touch (server_side config) config.lines st.core h line n o m) in
    told_tale true config.lines st.core (server_event config st (Takes line m)).state.core _ (Takes line m) _ t.seats t.sound t.own t.other (passed_fresh config st (Takes line m) pos t.sound)
server_tale config st (Attends line flag) pos h = fresh_tale true config.lines st.core _ (Attends line flag) _ refl refl h (server_fresh config st (Attends line flag) pos (λ id. tt) h)
server_tale config st (Closes line) pos h = fresh_tale true config.lines st.core _ (Closes line) _ refl refl h (server_fresh config st (Closes line) pos (λ id. tt) h)
server_tale config st (Requests to id service) pos h = fresh_tale true config.lines st.core _ (Requests to id service) _ refl refl h (server_fresh config st (Requests to id service) pos tt h)
server_tale config st (Withdraws id) pos h = fresh_tale true config.lines st.core _ (Withdraws id) _ refl refl h (server_fresh config st (Withdraws id) pos tt h)
server_tale config st Announces pos h = fresh_tale true config.lines st.core _ Announces _ refl refl h (server_fresh config st Announces pos tt h)
server_tale config st (Avoids line) pos h = fresh_tale true config.lines st.core _ (Avoids line) _ refl refl h (server_fresh config st (Avoids line) pos tt h)
server_tale config st (Readies line ready) pos h = fresh_tale true config.lines st.core _ (Readies line ready) _ refl refl h (server_fresh config st (Readies line ready) pos tt h)
server_tale config st Halts pos h = fresh_tale true config.lines st.core _ Halts _ refl refl h (server_fresh config st Halts pos tt h)

-- nothing follows an event of a node
none_follows : (lines : ℕ) (b : Core) → Sound false lines b → Fresh false lines b b
none_follows lines b h = record { sound = h; table = turned_same b.circuits h.rest.good; more = []; seats = sym (append_nil b.seats); new = tt; first = λ q. tt }

pub node_tale : (config : NodeConfig) (rates : List ℕ) (st : Node) (e : Event) → Sound false config.lines st.core → Tale false config.lines st.core (node_step config rates st e).state.core e (node_step config rates st e).answer
node_tale config rates st (Hears from payload k now) h = fresh_tale false config.lines st.core _ (Hears from payload k now) _ refl refl h (node_fresh config rates st (Hears from payload k now) tt h)
node_tale config rates st (Time now) h = fresh_tale false config.lines st.core _ (Time now) _ refl refl h (node_fresh config rates st (Time now) tt h)
node_tale config rates st (Connects line service) h = fresh_tale false config.lines st.core _ (Connects line service) _ refl refl h (node_fresh config rates st (Connects line service) tt h)
node_tale config rates st (Puts line bytes) h =
    let t : Told false config.lines st.core line (accepted_bytes bytes) no_items (on_line config.lines st.core line (λ s. put_on (node_side config) st.core s bytes)) = line_told false config.lines st.core line (accepted_bytes bytes) no_items (λ s. put_on (node_side config) st.core s bytes) h refl refl refl refl (λ n o. put_touch (node_side config) config.lines st.core h line n o bytes) in
    told_tale false config.lines st.core (node_step config rates st (Puts line bytes)).state.core _ (Puts line bytes) _ t.seats t.sound t.own t.other (none_follows config.lines _ t.sound)
node_tale config rates st (Sets line setting) h =
    let t : Told false config.lines st.core line (accepted_setting setting) no_items (on_line config.lines st.core line (λ s. set_on (node_side config) st.core s setting)) = line_told false config.lines st.core line (accepted_setting setting) no_items (λ s. set_on (node_side config) st.core s setting) h refl refl refl refl (λ n o. set_touch (node_side config) config.lines st.core h line n o setting) in
    told_tale false config.lines st.core (node_step config rates st (Sets line setting)).state.core _ (Sets line setting) _ t.seats t.sound t.own t.other (none_follows config.lines _ t.sound)
node_tale config rates st (Takes line m) h =
    let t : Told false config.lines st.core line no_items taken_items (on_line config.lines st.core line (λ s. take_on (node_side config) st.core s m)) = line_told false config.lines st.core line no_items taken_items (λ s. take_on (node_side config) st.core s m) h refl refl refl refl (λ n o. take_touch (node_side config) config.lines st.core h line n o m) in
    told_tale false config.lines st.core (node_step config rates st (Takes line m)).state.core _ (Takes line m) _ t.seats t.sound t.own t.other (none_follows config.lines _ t.sound)
node_tale config rates st (Attends line flag) h = fresh_tale false config.lines st.core _ (Attends line flag) _ refl refl h (node_fresh config rates st (Attends line flag) (λ id. tt) h)
node_tale config rates st (Closes line) h = fresh_tale false config.lines st.core _ (Closes line) _ refl refl h (node_fresh config rates st (Closes line) (λ id. tt) h)
node_tale config rates st (Requests to id service) h = fresh_tale false config.lines st.core _ (Requests to id service) _ refl refl h (node_fresh config rates st (Requests to id service) tt h)
node_tale config rates st (Withdraws id) h = fresh_tale false config.lines st.core _ (Withdraws id) _ refl refl h (node_fresh config rates st (Withdraws id) tt h)
node_tale config rates st Announces h = fresh_tale false config.lines st.core _ Announces _ refl refl h (node_fresh config rates st Announces tt h)
node_tale config rates st (Avoids line) h = fresh_tale false config.lines st.core _ (Avoids line) _ refl refl h (node_fresh config rates st (Avoids line) tt h)
node_tale config rates st (Readies line ready) h = fresh_tale false config.lines st.core _ (Readies line ready) _ refl refl h (node_fresh config rates st (Readies line ready) tt h)
node_tale config rates st Halts h = fresh_tale false config.lines st.core _ Halts _ refl refl h (node_fresh config rates st Halts tt h)
