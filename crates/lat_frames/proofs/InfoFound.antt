-- What is read of a START's sender is its text.
use Rattle.std.proofs.Common.{◌≡◌, ℕ, ◌<◌, ◌≤◌, Bool, true, false, ◌&&◌, eqb, ltb, leb, List, ◌∷◌, ◌++◌, length, Result, Ok, refl, sym, ap, ◌∙◌, subst, arith, append_assoc}
use Rattle.std.proofs.lemmas.Bool.Decides.{nat_tests}
use Rattle.std.specs.List.{AllByRecursion}
use Rattle.lat_base.specs.Names.{IsName}
use Rattle.lat_base.specs.declared.field.Bad.{Bad}
use Rattle.lat_base.specs.declared.field.Field.TheVariants.{FrameSize, Version, Eco, Sessions, Extra, Timer, KeepAlive, Facility, ProductType, ProductVersion, SlaveName, MasterName, Location}
use Rattle.lat_fields.specs.declared.params.Param.{Param}
use Rattle.lat_fields.specs.Reading.{◌>>=◌, wanted, byte_at, number_at, counted_at, name_at}
use Rattle.lat_fields.specs.ParamsReading.{params_at}
use Rattle.lat_fields.specs.Texts.{number, counted}
use Rattle.lat_fields.specs.Params.{params_text}
use Rattle.lat_fields.specs.Params.{IsEntry}
use Rattle.lat_fields.proofs.Steps.{IsBytes, bind_ok, both}
use Rattle.lat_frames.proofs.Steps.{same_ok, wanted_then, byte_then, number_then, counted_then, name_then, params_then}
use Rattle.lat_frames.specs.declared.message.StartInfo.{StartInfo}
use Rattle.lat_frames.specs.declared.message.Limits.{Limits}
use Rattle.lat_frames.specs.Conditions.{TimesFit, InfoFits}
use Rattle.lat_frames.specs.MessageText.{info_text}
use Rattle.lat_frames.specs.Reading.{timer_fits, keepalive_fits, timed_at, holding_at, limits_at, named_at, info_at}

abbrev Read : Type 0
Read = ℕ × ℕ × List ℕ

abbrev ReadLimits : Type 0
ReadLimits = Result (Limits × ℕ × List ℕ) Bad

abbrev limits_of : ℕ → ℕ → ℕ → ℕ → ℕ → ℕ → Limits
limits_of size eco sessions extra timer keepalive =
    record { size = size; eco = eco; sessions = sessions; extra = extra; timer = timer; keepalive = keepalive }

-- what follows each field
abbrev end_l : Read → Read → Read → Read → Read → Read → Unit {0} → ReadLimits
end_l size eco sessions extra timer keepalive u = Ok (limits_of size.0 eco.0 sessions.0 extra.0 timer.0 keepalive.0, keepalive.1, keepalive.2)

abbrev at_keepalive : Bool → Read → Read → Read → Read → Read → Read → ReadLimits
at_keepalive master size eco sessions extra timer keepalive = wanted (keepalive_fits master keepalive.0) KeepAlive timer.1 >>= end_l size eco sessions extra timer keepalive

abbrev timed : Bool → Read → Read → Read → Read → Read → Unit {0} → ReadLimits
timed master size eco sessions extra timer u = byte_at KeepAlive timer.1 timer.1 timer.2 >>= at_keepalive master size eco sessions extra timer

abbrev at_timer : Bool → Read → Read → Read → Read → Read → ReadLimits
at_timer master size eco sessions extra timer = wanted (timer_fits master timer.0) Timer extra.1 >>= timed master size eco sessions extra timer

abbrev at_extra : Bool → Read → Read → Read → Read → ReadLimits
at_extra master size eco sessions extra = byte_at Timer extra.1 extra.1 extra.2 >>= at_timer master size eco sessions extra

abbrev counted_sessions : Bool → Read → Read → Read → Unit {0} → ReadLimits
counted_sessions master size eco sessions u = byte_at Extra sessions.1 sessions.1 sessions.2 >>= at_extra master size eco sessions

abbrev at_sessions : Bool → Read → Read → Read → ReadLimits
at_sessions master size eco sessions = wanted (ltb 0 sessions.0) Sessions eco.1 >>= counted_sessions master size eco sessions

abbrev at_eco : Bool → Read → Read → ReadLimits
at_eco master size eco = byte_at Sessions eco.1 eco.1 eco.2 >>= at_sessions master size eco

abbrev versioned : Bool → Read → Read → Unit {0} → ReadLimits
versioned master size version u = byte_at Eco version.1 version.1 version.2 >>= at_eco master size

abbrev at_version : Bool → Read → Read → ReadLimits
at_version master size version = wanted (eqb version.0 5) Version size.1 >>= versioned master size version

abbrev sized : Bool → Read → Unit {0} → ReadLimits
sized master size u = byte_at Version size.1 size.1 size.2 >>= at_version master size

abbrev at_size : Bool → ℕ → Read → ReadLimits
at_size master place size = wanted (leb 576 size.0 && leb size.0 1518) FrameSize place >>= sized master size

record FoundLimits (master : Bool) (bytes : List ℕ) (x : Limits × ℕ × List ℕ) : Type 0 where
  is : bytes ≡ number x.0.size ++ 5 ∷ x.0.eco ∷ x.0.sessions ∷ x.0.extra ∷ x.0.timer ∷ x.0.keepalive ∷ x.2
  least : 576 ≤ x.0.size
  most : x.0.size ≤ 1518
  sessions : 0 < x.0.sessions
  times : TimesFit master x.0.timer x.0.keepalive
  others : IsBytes x.2

times_fit : (master : Bool) (timer keepalive : ℕ) → timer_fits master timer ≡ true → keepalive_fits master keepalive ≡ true → TimesFit master timer keepalive
times_fit true timer keepalive t k =
    let b = both (ltb 0 timer) (leb timer 100) t in
    let some = b.0 in
    let most = b.1 in
    (grind (arith, nat_tests), grind (arith, nat_tests), grind (arith, nat_tests))
times_fit false timer keepalive t k = tt

five : (version : ℕ) → eqb version 5 ≡ true → 5 ≡ version
five version h = grind (arith, nat_tests)

-- the last of it, once each field was read
limits_end : (master : Bool) (size version eco sessions extra timer keepalive next : ℕ) (rest : List ℕ) (x : Limits × ℕ × List ℕ)
    → (leb 576 size && leb size 1518) ≡ true → eqb version 5 ≡ true → ltb 0 sessions ≡ true → timer_fits master timer ≡ true → keepalive_fits master keepalive ≡ true → IsBytes rest
    → (limits_of size eco sessions extra timer keepalive, next, rest) ≡ x → FoundLimits master (number size ++ version ∷ eco ∷ sessions ∷ extra ∷ timer ∷ keepalive ∷ rest) x
limits_end master size version eco sessions extra timer keepalive next rest x range is_five some t k all e =
    let r = both (leb 576 size) (leb size 1518) range in
    let least = r.0 in
    let most = r.1 in
    let P : (Limits × ℕ × List ℕ) → Type 0 = FoundLimits master (number size ++ version ∷ eco ∷ sessions ∷ extra ∷ timer ∷ keepalive ∷ rest) in
    subst P e (record {
      is = ap (λ (v : ℕ). number size ++ v ∷ eco ∷ sessions ∷ extra ∷ timer ∷ keepalive ∷ rest) (sym (five version is_five));
      least = grind (arith, nat_tests);
      most = grind (arith, nat_tests);
      sessions = grind (arith, nat_tests);
      times = times_fit master timer keepalive t k;
      others = all;
    })

limits_found : (master : Bool) (place : ℕ) (bytes : List ℕ) (x : Limits × ℕ × List ℕ) → IsBytes bytes → limits_at master place bytes ≡ Ok x → FoundLimits master bytes x
unfolding limits_at holding_at timed_at
limits_found master place bytes x all h =
    let P : List ℕ → Type 0 = λ bs. FoundLimits master bs x in
    number_then FrameSize place bytes (at_size master place) x P all h (λ size p1 r1 a1 h1.
    wanted_then (leb 576 size && leb size 1518) FrameSize place (sized master (size, p1, r1)) x (P (number size ++ r1)) h1 (λ range g1.
    byte_then Version p1 p1 r1 (at_version master (size, p1, r1)) x (λ bs. P (number size ++ bs)) a1 g1 (λ version p2 r2 _ a2 h2.
    wanted_then (eqb version 5) Version p1 (versioned master (size, p1, r1) (version, p2, r2)) x (P (number size ++ version ∷ r2)) h2 (λ is_five g2.
    byte_then Eco p2 p2 r2 (at_eco master (size, p1, r1)) x (λ bs. P (number size ++ version ∷ bs)) a2 g2 (λ eco p3 r3 _ a3 h3.
    byte_then Sessions p3 p3 r3 (at_sessions master (size, p1, r1) (eco, p3, r3)) x (λ bs. P (number size ++ version ∷ eco ∷ bs)) a3 h3 (λ sessions p4 r4 _ a4 h4.
    wanted_then (ltb 0 sessions) Sessions p3 (counted_sessions master (size, p1, r1) (eco, p3, r3) (sessions, p4, r4)) x (P (number size ++ version ∷ eco ∷ sessions ∷ r4)) h4 (λ some g4.
    byte_then Extra p4 p4 r4 (at_extra master (size, p1, r1) (eco, p3, r3) (sessions, p4, r4)) x (λ bs. P (number size ++ version ∷ eco ∷ sessions ∷ bs)) a4 g4 (λ extra p5 r5 _ a5 h5.
    byte_then Timer p5 p5 r5 (at_timer master (size, p1, r1) (eco, p3, r3) (sessions, p4, r4) (extra, p5, r5)) x (λ bs. P (number size ++ version ∷ eco ∷ sessions ∷ extra ∷ bs)) a5 h5 (λ timer p6 r6 _ a6 h6.
    wanted_then (timer_fits master timer) Timer p5 (timed master (size, p1, r1) (eco, p3, r3) (sessions, p4, r4) (extra, p5, r5) (timer, p6, r6)) x (P (number size ++ version ∷ eco ∷ sessions ∷ extra ∷ timer ∷ r6)) h6 (λ t g6.
    byte_then KeepAlive p6 p6 r6 (at_keepalive master (size, p1, r1) (eco, p3, r3) (sessions, p4, r4) (extra, p5, r5) (timer, p6, r6)) x (λ bs. P (number size ++ version ∷ eco ∷ sessions ∷ extra ∷ timer ∷ bs)) a6 g6 (λ keepalive p7 r7 _ a7 h7.
    wanted_then (keepalive_fits master keepalive) KeepAlive p6 (end_l (size, p1, r1) (eco, p3, r3) (sessions, p4, r4) (extra, p5, r5) (timer, p6, r6) (keepalive, p7, r7)) x (P (number size ++ version ∷ eco ∷ sessions ∷ extra ∷ timer ∷ keepalive ∷ r7)) h7 (λ k g7.
    limits_end master size version eco sessions extra timer keepalive p7 r7 x range is_five some t k a7 (same_ok (limits_of size eco sessions extra timer keepalive, p7, r7) x g7)))))))))))))

abbrev ReadText : Type 0
ReadText = List ℕ × ℕ × List ℕ

abbrev ReadInfo : Type 0
ReadInfo = Result (StartInfo × ℕ × List ℕ) Bad

abbrev info_of : Limits → ℕ → ℕ → ℕ → List ℕ → List ℕ → List ℕ → List Param → StartInfo
info_of l facility product version slave name location params = record {
  size = l.size;
  eco = l.eco;
  sessions = l.sessions;
  extra = l.extra;
  timer = l.timer;
  keepalive = l.keepalive;
  facility = facility;
  product = product;
  product_version = version;
  slave = slave;
  name = name;
  location = location;
  params = params;
}

abbrev end_i : (Limits × ℕ × List ℕ) → Read → Read → Read → ReadText → ReadText → ReadText → (List Param × ℕ × List ℕ) → ReadInfo
end_i l facility product version slave name location params = Ok (info_of l.0 facility.0 product.0 version.0 slave.0 name.0 location.0 params.0, params.1, params.2)

abbrev at_location : ℕ → (Limits × ℕ × List ℕ) → Read → Read → Read → ReadText → ReadText → ReadText → ReadInfo
at_location most l facility product version slave name location = params_at most location.1 location.2 >>= end_i l facility product version slave name location

abbrev at_name : ℕ → (Limits × ℕ × List ℕ) → Read → Read → Read → ReadText → ReadText → ReadInfo
at_name most l facility product version slave name = counted_at Location name.1 name.1 name.2 >>= at_location most l facility product version slave name

abbrev at_slave : ℕ → (Limits × ℕ × List ℕ) → Read → Read → Read → ReadText → ReadInfo
at_slave most l facility product version slave = name_at MasterName slave.1 slave.2 >>= at_name most l facility product version slave

abbrev at_product_version : ℕ → (Limits × ℕ × List ℕ) → Read → Read → Read → ReadInfo
at_product_version most l facility product version = name_at SlaveName version.1 version.2 >>= at_slave most l facility product version

abbrev at_product : ℕ → (Limits × ℕ × List ℕ) → Read → Read → ReadInfo
at_product most l facility product = byte_at ProductVersion product.1 product.1 product.2 >>= at_product_version most l facility product

abbrev at_facility : ℕ → (Limits × ℕ × List ℕ) → Read → ReadInfo
at_facility most l facility = byte_at ProductType facility.1 facility.1 facility.2 >>= at_product most l facility

abbrev at_limits : ℕ → (Limits × ℕ × List ℕ) → ReadInfo
at_limits most l = number_at Facility l.1 l.2 >>= at_facility most l

pub record FoundInfo (master : Bool) (bytes : List ℕ) (x : StartInfo × ℕ × List ℕ) : Type 0 where
  pub is : bytes ≡ info_text x.0 ++ x.2
  pub fits : InfoFits master x.0

regrouped : (i : StartInfo) (rest : List ℕ) → number i.size ++ 5 ∷ i.eco ∷ i.sessions ∷ i.extra ∷ i.timer ∷ i.keepalive ∷ number i.facility ++ i.product ∷ i.product_version ∷ counted i.slave ++ (counted i.name ++ (counted i.location ++ (params_text i.params ++ rest))) ≡ info_text i ++ rest
regrouped i rest = simp append_assoc

-- what stands behind the limits
abbrev behind_limits : ℕ → ℕ → ℕ → List ℕ → List ℕ → List ℕ → List ℕ → List ℕ
behind_limits facility product version slave name location last =
    number facility ++ product ∷ version ∷ counted slave ++ (counted name ++ (counted location ++ last))

info_end : (master : Bool) (bytes : List ℕ) (l : Limits × ℕ × List ℕ) (facility product version : ℕ) (slave name location : List ℕ) (params : List Param) (next : ℕ) (rest : List ℕ) (x : StartInfo × ℕ × List ℕ)
    → FoundLimits master bytes l → IsName slave → IsName name → length location < 256 → AllByRecursion IsEntry params
    → l.2 ≡ behind_limits facility product version slave name location (params_text params ++ rest)
    → (info_of l.0 facility product version slave name location params, next, rest) ≡ x → FoundInfo master bytes x
info_end master bytes l facility product version slave name location params next rest x f s n short entries is e =
    let P : (StartInfo × ℕ × List ℕ) → Type 0 = FoundInfo master bytes in
    let ls = l.0 in
    subst P e (record {
      is = f.is ∙ ap (λ bs. number ls.size ++ 5 ∷ ls.eco ∷ ls.sessions ∷ ls.extra ∷ ls.timer ∷ ls.keepalive ∷ bs) is ∙ regrouped (info_of ls facility product version slave name location params) rest;
      fits = record { least = f.least; most = f.most; sessions = f.sessions; times = f.times; slave = s; name = n; location = short; params = entries };
    })

info_behind : (most : ℕ) (master : Bool) (bytes : List ℕ) (l : Limits × ℕ × List ℕ) (x : StartInfo × ℕ × List ℕ) → FoundLimits master bytes l → at_limits most l ≡ Ok x → FoundInfo master bytes x
info_behind most master bytes l x f h =
    let Q : List ℕ → Type 0 = λ bs. l.2 ≡ bs → FoundInfo master bytes x in
    number_then Facility l.1 l.2 (at_facility most l) x Q f.others h (λ facility p1 r1 a1 h1.
    byte_then ProductType p1 p1 r1 (at_product most l (facility, p1, r1)) x (λ bs. Q (number facility ++ bs)) a1 h1 (λ product p2 r2 _ a2 h2.
    byte_then ProductVersion p2 p2 r2 (at_product_version most l (facility, p1, r1) (product, p2, r2)) x (λ bs. Q (number facility ++ product ∷ bs)) a2 h2 (λ version p3 r3 _ a3 h3.
    name_then SlaveName p3 r3 (at_slave most l (facility, p1, r1) (product, p2, r2) (version, p3, r3)) x (λ bs. Q (number facility ++ product ∷ version ∷ bs)) a3 h3 (λ slave p4 r4 s a4 h4.
    name_then MasterName p4 r4 (at_name most l (facility, p1, r1) (product, p2, r2) (version, p3, r3) (slave, p4, r4)) x (λ bs. Q (number facility ++ product ∷ version ∷ counted slave ++ bs)) a4 h4 (λ name p5 r5 n a5 h5.
    counted_then Location p5 p5 r5 (at_location most l (facility, p1, r1) (product, p2, r2) (version, p3, r3) (slave, p4, r4) (name, p5, r5)) x (λ bs. Q (number facility ++ product ∷ version ∷ counted slave ++ (counted name ++ bs))) a5 h5 (λ location p6 r6 short a6 h6.
    params_then most p6 r6 (end_i l (facility, p1, r1) (product, p2, r2) (version, p3, r3) (slave, p4, r4) (name, p5, r5) (location, p6, r6)) x (λ bs. Q (behind_limits facility product version slave name location bs)) a6 h6 (λ params p7 r7 entries a7 h7 is.
    info_end master bytes l facility product version slave name location params p7 r7 x f s n short entries is (same_ok (info_of l.0 facility product version slave name location params, p7, r7) x h7)))))))) refl

pub info_found : (most : ℕ) (master : Bool) (place : ℕ) (bytes : List ℕ) (x : StartInfo × ℕ × List ℕ) → IsBytes bytes → info_at most master place bytes ≡ Ok x → FoundInfo master bytes x
unfolding info_at named_at
info_found most master place bytes x all h =
    let found = bind_ok (limits_at master place bytes) (at_limits most) x h in
    info_behind most master bytes found.0 x (limits_found master place bytes found.0 all found.1) found.2
