-- The world of circuits where frames come in order: what is still in flight.
use Rattle.std.specs.Prelude.{◌≡◌, ◌≢◌, ℕ, suc, ◌<◌, ◌≤◌, ◌⊎◌, Bool, true, false, not, cond, ◌&&◌, List, [], ◌∷◌, length, Option, Some, None, nat_eq, slice_get}
use Rattle.lat_model.specs.numbers.Link.{fresh}
use Rattle.lat_model.specs.ends.End.{Sent, Run, CallStart, ReplyStart, Stopped, End, lives}
use Rattle.lat_model.specs.circuits.World.{Wired, World, table}
use Rattle.lat_model.specs.circuits.Arriving.{refusal}
use Rattle.lat_model.specs.circuits.Events.{WorldEvent, Delivers, occurs, Lapses, Stops}
use Rattle.lat_laws.specs.rounds.Lossless.{is_side, is_in}
use Rattle.lat_model.specs.Lists.{Each}
use Rattle.lat_model.specs.circuits.Ids.{is_drawn, is_known}
use Rattle.lat_laws.specs.rounds.Flight.{Flow, ShowsTaken, Clear, Old}

-- a frame of the circuit x of the side b, to the other end; a and c are the ends' addresses
abbrev pub is_of_line : ℕ → Bool → ℕ → Wired → Bool
is_of_line other b x v = is_side b v.by_server && (nat_eq v.circuit x && nat_eq v.to other)

-- those whose index, from n on, isn't among these
abbrev pub flying_from : ℕ → Bool → ℕ → List ℕ → ℕ → List Wired → List Sent
flying_from other b x done n [] = []
flying_from other b x done n (v ∷ vs) =
    cond (is_of_line other b x v && not (is_in n done)) (v.sent ∷ flying_from other b x done (suc n) vs) (flying_from other b x done (suc n) vs)

abbrev pub flying : World → List ℕ → Bool → ℕ → List Sent
flying w done b x = flying_from (table w (not b)).own b x done 0 w.frames

abbrev pub has_stop_sent : List Sent → Bool
has_stop_sent [] = false
has_stop_sent (Run mark ask f ∷ fs) = has_stop_sent fs
has_stop_sent (CallStart ∷ fs) = has_stop_sent fs
has_stop_sent (ReplyStart ∷ fs) = has_stop_sent fs
has_stop_sent (Stopped r ∷ fs) = true

-- The frame i is the next of its side: each frame of this side to the other end before it was delivered
abbrev pub IsNext : World → List ℕ → Wired → ℕ → Type 0
IsNext w done v i =
    (j : ℕ) (u : Wired) → j < i → slice_get w.frames j ≡ Some u → u.by_server ≡ v.by_server → u.to ≡ v.to → is_in j done ≡ true

-- Both ends of a circuit, with what is in flight from the server and from the node
pub record Both (m : End) (s : End) (ups : List Sent) (downs : List Sent) : Type 0 where
  pub up : Flow m.half.link s.half.link ups
  pub down : Flow s.half.link m.half.link downs
  pub shows : ShowsTaken m
  pub clear : Clear s

-- where the slave has ended, its STOP is in flight
pub record Coupled (m : End) (s : End) (up : List Sent) (down : List Sent) : Type 0 where
  pub alive : lives s ≡ true → Both m s up down
  pub dead : lives s ≡ false → has_stop_sent down ≡ true

-- a slave whose master waits: its reply is the first in flight
pub record Offered (s : End) (down : List Sent) : Type 0 where
  pub rest : List Sent
  pub parts : down ≡ ReplyStart ∷ rest
  pub flow : Flow s.half.link fresh rest
  pub clear : Clear s
  pub dead : lives s ≡ false → has_stop_sent rest ≡ true

abbrev pub server_end : World → ℕ → End
server_end w p = (w.server.circuit_at p).end

abbrev pub node_end : World → ℕ → End
node_end w q = (w.node.circuit_at q).end

-- what a frame says of its sender
abbrev pub NamesSender : World → Bool → ℕ → ℕ → ℕ → ℕ → Sent → Type 0
NamesSender w true x to destination source (Run mark ask f) =
    to ≡ w.node.own →
    ((server_end w x).running ≡ true) × (destination ≡ (server_end w x).peer)
NamesSender w true x to destination source (Stopped r) = (lives (server_end w x) ≡ false) × (source ≡ x) × (x ≢ 0)
NamesSender w false x to destination source (Stopped r) =
    to ≡ w.server.own →
    x ≢ 0 →
    (source ≡ x) × (destination ≡ (node_end w x).peer)
NamesSender w true x to destination source CallStart = source ≡ x
NamesSender w b x to destination source s = Unit {0}

-- and of its receiver, once it was delivered
abbrev pub Came : World → Bool → ℕ → ℕ → ℕ → Sent → Type 0
Came w true x to destination (Run mark ask f) =
    to ≡ w.node.own →
    lives (node_end w destination) ≡ true →
    Old (node_end w destination) f
Came w false x to destination (Run mark ask f) =
    to ≡ w.server.own →
    (w.server.circuit_at destination).address ≡ w.node.own →
    lives (server_end w destination) ≡ true →
    (server_end w destination).running ≡ true →
    (server_end w destination).peer ≡ x →
    Old (server_end w destination) f
Came w false x to destination ReplyStart =
    to ≡ w.server.own →
    (w.server.circuit_at destination).address ≡ w.node.own →
    lives (server_end w destination) ≡ true →
    (server_end w destination).running ≡ true
Came w b x to destination s = Unit {0}

-- What every run keeps in which frames come in order
pub record Carried (w : World) (done : List ℕ) : Type 0 where
  pub below : (j : ℕ) → length w.frames ≤ j → is_in j done ≡ false
  pub low : Each (λ v. is_known (table w v.by_server) v.circuit ≡ true) w.frames
  pub calling :
      (p : ℕ) →
      (w.server.circuit_at p).address ≡ w.node.own →
      lives (server_end w p) ≡ true →
      (server_end w p).running ≡ false →
      Flow (server_end w p).half.link fresh (flying w done true p)
  pub runs :
      (p : ℕ) →
      (w.server.circuit_at p).address ≡ w.node.own →
      lives (server_end w p) ≡ true →
      (server_end w p).running ≡ true →
      Coupled (server_end w p) (node_end w (server_end w p).peer) (flying w done true p) (flying w done false (server_end w p).peer)
  -- both flows, whether their senders live or have ended
  pub ups :
      (p : ℕ) →
      (w.server.circuit_at p).address ≡ w.node.own →
      (server_end w p).running ≡ true →
      lives (node_end w (server_end w p).peer) ≡ true →
      Flow (server_end w p).half.link (node_end w (server_end w p).peer).half.link (flying w done true p)
  pub downs :
      (p : ℕ) →
      (w.server.circuit_at p).address ≡ w.node.own →
      lives (server_end w p) ≡ true →
      (server_end w p).running ≡ true →
      Flow (node_end w (server_end w p).peer).half.link (server_end w p).half.link (flying w done false (server_end w p).peer)
  pub offered :
      (q : ℕ) →
      is_drawn w.node q ≡ true →
      (w.node.circuit_at q).address ≡ w.server.own →
      (w.server.circuit_at (node_end w q).peer).address ≡ w.node.own →
      lives (server_end w (node_end w q).peer) ≡ true →
      (server_end w (node_end w q).peer).running ≡ false →
      Offered (node_end w q) (flying w done false q)
  -- a slave of the server names a circuit that the server has drawn
  pub peers :
      (q : ℕ) →
      is_drawn w.node q ≡ true →
      (w.node.circuit_at q).address ≡ w.server.own →
      is_known w.server (node_end w q).peer ≡ true
  pub tells : Each (λ v. NamesSender w v.by_server v.circuit v.to v.destination v.source v.sent) w.frames
  pub came :
      (j : ℕ) (v : Wired) →
      slice_get w.frames j ≡ Some v →
      is_in j done ≡ true →
      Came w v.by_server v.circuit v.to v.destination v.sent

-- A slave of this circuit, whether it lives or has ended
pub record HasSlave (w : World) (p : ℕ) : Type 0 where
  pub slave : ℕ
  pub drawn : is_drawn w.node slave ≡ true
  pub address : (w.node.circuit_at slave).address ≡ w.server.own
  pub peer : (node_end w slave).peer ≡ p

-- its refusal is on its way
pub record IsRefused (w : World) (done : List ℕ) (p : ℕ) : Type 0 where
  pub index : ℕ
  pub there : slice_get w.frames index ≡ Some (refusal w.server.own p)
  pub new : is_in index done ≡ false

-- the first START of a circuit
abbrev pub call_frame : ℕ → ℕ → Wired
call_frame to p = record { by_server = true; circuit = p; to = to; destination = 0; source = p; sent = CallStart }

-- it was sent; and where it was delivered, there is a slave, or a refusal is on its way
pub record IsAsked (w : World) (done : List ℕ) (p : ℕ) : Type 0 where
  pub index : ℕ
  pub there : slice_get w.frames index ≡ Some (call_frame w.node.own p)
  pub answered : is_in index done ≡ true → HasSlave w p ⊎ IsRefused w done p

-- each circuit that lives and waits for its reply
abbrev pub Called : World → List ℕ → Type 0
Called w done =
    (p : ℕ) →
    (w.server.circuit_at p).address ≡ w.node.own →
    lives (server_end w p) ≡ true →
    (server_end w p).running ≡ false →
    IsAsked w done p

-- the sides' circuits are masters and slaves, and a slave runs as long as it lives
pub record Kinds (w : World) : Type 0 where
  pub masters : (x : ℕ) → (server_end w x).master ≡ true
  pub slaves : (x : ℕ) → (node_end w x).master ≡ false
  pub runs : (x : ℕ) → lives (node_end w x) ≡ true → (node_end w x).running ≡ true

-- the indices delivered, after an event
abbrev pub done_with : List ℕ → ℕ → Option Wired → List ℕ
done_with done i None = done
done_with done i (Some v) = i ∷ done

abbrev pub done_after : World → List ℕ → WorldEvent → List ℕ
done_after w done (Delivers i now g) = done_with done i (slice_get w.frames i)
done_after w done _ = done

-- a frame that comes to the other end comes in its turn, or again; no circuit lapses, and no STOP comes from no circuit
abbrev pub InTurn : World → List ℕ → WorldEvent → Type 0
InTurn w done (Delivers i now g) =
    (v : Wired) →
    slice_get w.frames i ≡ Some v →
    v.to ≡ (table w (not v.by_server)).own →
    (is_in i done ≡ true) ⊎ ((is_in i done ≡ false) × IsNext w done v i)
InTurn w done (Lapses b x r) = ⊥
InTurn w done (Stops b to destination source r) = ⊥
InTurn w done _ = Unit {0}

-- and so each frame of these events
abbrev pub Orderly : World → List ℕ → List WorldEvent → Type 0
Orderly w done [] = Unit {0}
Orderly w done (e ∷ es) = InTurn w done e × Orderly (occurs w e) (done_after w done e) es

abbrev pub done_all : World → List ℕ → List WorldEvent → List ℕ
done_all w done [] = done
done_all w done (e ∷ es) = done_all (occurs w e) (done_after w done e) es
