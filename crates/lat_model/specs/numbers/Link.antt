-- The numbered messages of one end, of any kind M, and the frames that carry them. Numbers are unbounded here.
use Rattle.std.specs.Prelude.{ℕ, suc, ◌+◌, Bool, cond, List, [], ◌∷◌, ◌++◌, length, drop, Option, Some, None, nat_eq, nat_lt}

pub record Link (M : Type 0) : Type 0 where
  pub sent : List M  -- all messages formed; the k-th has the number k, from 1 on
  pub taken_then : List ℕ  -- beside each message, how many of the other end's were taken when it was formed
  pub known : ℕ  -- how many of them this end knows to be taken
  pub came : List M  -- all messages of the other end that were taken
  pub shown : ℕ  -- the greatest acknowledgement on a frame of this end

-- a frame of an end: its numbers, and its message if it carries one
pub record Frame (M : Type 0) : Type 0 where
  pub number : ℕ
  pub acknowledgement : ℕ
  pub body : Option M

abbrev pub fresh : {M : Type 0} → Link M
fresh {M} = record { sent = []; taken_then = []; known = 0; came = []; shown = 0 }

-- each frame shows what was taken
abbrev pub showing : {M : Type 0} → Link M → Link M
showing l = record l { shown = length l.came }

abbrev pub form_message : {M : Type 0} → Link M → M → Link M
form_message l m = record l {
  sent = l.sent ++ m ∷ [];
  taken_then = l.taken_then ++ length l.came ∷ [];
  shown = length l.came;
}

abbrev pub formed_frame : {M : Type 0} → Link M → M → Frame M
formed_frame l m = record { number = suc (length l.sent); acknowledgement = length l.came; body = Some m }

abbrev pub bare_frame : {M : Type 0} → Link M → Frame M
bare_frame l = record { number = length l.sent; acknowledgement = length l.came; body = None }

-- all messages behind the k-th, as frames with these numbers
abbrev pub frames_from : {M : Type 0} → ℕ → ℕ → List M → List (Frame M)
frames_from k a [] = []
frames_from k a (m ∷ ms) = record { number = suc k; acknowledgement = a; body = Some m } ∷ frames_from (suc k) a ms

abbrev pub again_frames : {M : Type 0} → Link M → List (Frame M)
again_frames l = frames_from l.known (length l.came) (drop l.known l.sent)

abbrev pub window_open : {M : Type 0} → ℕ → Link M → Bool
window_open window l = nat_lt (length l.sent) (l.known + window)

-- what an acknowledgement says
pub data AckFact : Type 0 where
  New : AckFact
  Old : AckFact
  Unsent : AckFact

-- it acknowledges what was never sent
abbrev pub is_unsent : {M : Type 0} → Link M → ℕ → Bool
is_unsent l a = nat_lt (length l.sent) a

abbrev pub ack_fact : {M : Type 0} → Link M → ℕ → AckFact
ack_fact l a = cond (is_unsent l a) Unsent (cond (nat_lt l.known a) New Old)

abbrev pub ack_in : {M : Type 0} → Link M → ℕ → Link M
ack_in l a = record l { known = cond (nat_lt l.known a) a l.known }

-- the message of this number is the next one
abbrev pub is_next : {M : Type 0} → Link M → ℕ → Bool
is_next l n = nat_eq n (suc (length l.came))

abbrev pub take_message : {M : Type 0} → Link M → M → Link M
take_message l m = record l { came = l.came ++ m ∷ [] }

-- A frame that is heard: its acknowledgement, then its message if that is the next one. One that acknowledges
-- what was never sent breaks the circuit, which is said above this layer
abbrev pub body_in : {M : Type 0} → Link M → ℕ → Option M → Link M
body_in l n None = l
body_in l n (Some m) = cond (is_next l n) (take_message l m) l

abbrev pub frame_in : {M : Type 0} → Link M → Frame M → Link M
frame_in l f = body_in (ack_in l f.acknowledgement) f.number f.body
