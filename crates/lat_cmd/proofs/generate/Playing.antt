-- What a turn draws can be played.
use Rattle.std.proofs.Common.{◌≡◌, ℕ, List, Bool, true, false, refl, sym, subst, nat_eq}
use Rattle.std.specs.Prelude.{if◌then◌else◌}
use Rattle.lat_schedule.specs.declared.event.WorldEvent.{WorldEvent}
use Rattle.lat_replay.specs.Moves.{IsPlayable}
use Rattle.lat_cmd.specs.declared.generate.generator.Generator.{Generator}
use Rattle.lat_cmd.specs.generate.Draws.{Drawn, below}
use Rattle.lat_cmd.specs.generate.Turns.{connect, put, take, close, time, recent, seldom_close, by_number, turn}

record Plays (d : Drawn WorldEvent) : Type 0 where
  pub is : IsPlayable d.0

either : (b : Bool) (d e : Drawn WorldEvent) → Plays d → Plays e → Plays (if b then d else e)
either true d e p q = p
either false d e p q = q

connects : (service : List ℕ) (g : Generator) → Plays (connect service g)
unfolding connect
connects service g = record { is = refl }

puts : (server : Bool) (most : ℕ) (g : Generator) → Plays (put server most g)
unfolding put
puts server most g = record { is = refl }

takes : (server : Bool) (g : Generator) → Plays (take server g)
unfolding take
takes server g = record { is = refl }

closes : (server : Bool) (g : Generator) → Plays (close server g)
unfolding close
closes server g = record { is = refl }

times : (server : Bool) (g : Generator) → Plays (time server g)
unfolding time
times server g = record { is = refl }

delivers : (frames : ℕ) (g : Generator) → Plays (recent frames g)
unfolding recent
delivers frames g = record { is = tt }

seldom_closes : (server : Bool) (frames : ℕ) (g : Generator) → Plays (seldom_close server frames g)
unfolding seldom_close
seldom_closes server frames g =
    let d : Drawn ℕ = below 8 g in
    either (nat_eq d.0 0) (close server d.1) (recent frames d.1) (closes server d.1) (delivers frames d.1)

by_numbers : (service : List ℕ) (frames c : ℕ) (g : Generator) → Plays (by_number service frames c g)
by_numbers service frames c g =
    either (nat_eq c 0) _ _ (connects service g)
    (either (nat_eq c 1) _ _ (puts true 64 g)
    (either (nat_eq c 2) _ _ (puts false 512 g)
    (either (nat_eq c 3) _ _ (takes true g)
    (either (nat_eq c 4) _ _ (takes false g)
    (either (nat_eq c 5) _ _ (times true g)
    (either (nat_eq c 6) _ _ (times false g)
    (either (nat_eq c 10) _ _ (seldom_closes true frames g)
    (either (nat_eq c 11) _ _ (seldom_closes false frames g) (delivers frames g)))))))))

pub turn_plays : (service : List ℕ) (frames : ℕ) (g h : Generator) (e : WorldEvent) → (e, h) ≡ turn service frames g → IsPlayable e
unfolding turn
turn_plays service frames g h e drawn =
    let d : Drawn ℕ = below 12 g in
    subst (λ (z : Drawn WorldEvent). IsPlayable z.0) (sym drawn) (by_numbers service frames d.0 d.1).is
