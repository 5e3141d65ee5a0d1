-- What is read as a notice is a text of it.
use Rattle.std.proofs.Common.{◌≡◌, ℕ, ◌<◌, true, List, ◌∷◌, ◌++◌, length, Result, Ok, refl, sym, ap, ◌∙◌, subst, arith, append_assoc}
use Rattle.std.specs.List.{flat_map}
use Rattle.std.proofs.lemmas.Bool.Decides.{nat_tests}
use Rattle.lat_base.specs.declared.field.Bad.{Bad}
use Rattle.lat_base.specs.declared.field.Field.TheVariants as fields
use Rattle.lat_fields.specs.Reading.{◌>>=◌, byte_at, number_at, counted_at, name_at}
use Rattle.lat_fields.specs.Texts.{counted, number}
use Rattle.lat_fields.proofs.Steps.{IsBytes, bind_ok}
use Rattle.lat_fields.proofs.Found.{byte_found, number_found, counted_found, name_found}
use Rattle.lat_notices.specs.declared.kind.NoticeKind.{NoticeKind}
use Rattle.lat_notices.specs.declared.kind.NoticeKind.TheVariants as kinds
use Rattle.lat_notices.specs.declared.notice.Action.{Action}
use Rattle.lat_notices.specs.declared.notice.Outcome.{Outcome}
use Rattle.lat_notices.specs.declared.notice.Notice.{Notice}
use Rattle.lat_notices.specs.declared.services.Service.{Service}
use Rattle.lat_notices.specs.Outcomes.{action_number, outcome_number, outcome_place}
use Rattle.lat_notices.specs.Services.{service_text}
use Rattle.lat_notices.specs.Texts.{Fits, fields_text, type_of}
use Rattle.lat_notices.specs.Fields.{is_version, is_timer, byte_for, groups_at, action_at, outcome_at}
use Rattle.lat_notices.specs.ServicesReading.{services_at}
use Rattle.lat_notices.specs.Reading.{announcement, command, status, solicit, response, announcement_at, command_at, status_at, solicit_at, response_at, fields_at}
use Rattle.lat_notices.proofs.FieldsFound.{right_byte_found, groups_found, action_found, outcome_found, services_found}

-- the notice and the bytes behind its fields, with the place between them
abbrev Read : Type 0
Read = Notice × ℕ × List ℕ

abbrev Text : Type 0
Text = List ℕ × ℕ × List ℕ

abbrev Number : Type 0
Number = ℕ × ℕ × List ℕ

pub record FoundFields (kind : NoticeKind) (bytes : List ℕ) (x : Notice × ℕ × List ℕ) : Type 0 where
  pub kind_is : type_of x.0 ≡ kind
  pub is : bytes ≡ fields_text x.0 ++ x.2
  pub fits : Fits x.0

abbrev gives : Notice → ℕ → List ℕ → Result Read Bad
gives n place rest = Ok (n, place, rest)

-- the value that a chain gives is the one that was read
finish : (k : NoticeKind) (bytes : List ℕ) (n : Notice) (place : ℕ) (rest : List ℕ) (x : Read) → type_of n ≡ k → bytes ≡ fields_text n ++ rest → Fits n → gives n place rest ≡ Ok x → FoundFields k bytes x
finish k bytes n place rest x kind is fits same =
    let e : (n, place, rest) ≡ x = cc in
    let P : Read → Type 0 = FoundFields k bytes in
    subst P e (record { kind_is = kind; is = is; fits = fits })

five : (version : ℕ) → is_version version ≡ true → version ≡ 5
five version h = grind (arith, nat_tests)

timer_some : (seconds : ℕ) → is_timer seconds ≡ true → 0 < seconds
timer_some seconds h = grind (arith, nat_tests)

-- what follows each field of an announcement
abbrev announced : ℕ → ℕ → List ℕ → List ℕ → List ℕ → (List Service × ℕ × List ℕ) → Result Read Bad
announced t i g n d s = Ok (announcement t i g n d s.0, s.1, s.2)

abbrev announced_count : ℕ → ℕ → List ℕ → List ℕ → List ℕ → Number → Result Read Bad
announced_count t i g n d c = services_at c.0 c.1 c.2 >>= announced t i g n d

abbrev announced_description : ℕ → ℕ → List ℕ → List ℕ → Text → Result Read Bad
announced_description t i g n d = byte_at fields.ServiceCount d.1 d.1 d.2 >>= announced_count t i g n d.0

abbrev announced_node : ℕ → ℕ → List ℕ → Text → Result Read Bad
announced_node t i g n = counted_at fields.Description n.1 n.1 n.2 >>= announced_description t i g n.0

abbrev announced_groups : ℕ → ℕ → Text → Result Read Bad
announced_groups t i g = name_at fields.NodeName g.1 g.2 >>= announced_node t i g.0

abbrev announced_incarnation : ℕ → Number → Result Read Bad
announced_incarnation t i = groups_at i.1 i.2 >>= announced_groups t i.0

abbrev announced_version : ℕ → Number → Result Read Bad
announced_version t v = number_at fields.Incarnation v.1 v.2 >>= announced_incarnation t

abbrev announced_timer : Number → Result Read Bad
announced_timer t = byte_for is_version fields.Version t.1 t.2 >>= announced_version t.0

announcement_joined : (bytes : List ℕ) (t v i : Number) (g n d : Text) (c : Number) (s : List Service × ℕ × List ℕ)
    → bytes ≡ t.0 ∷ t.2 → t.2 ≡ v.0 ∷ v.2 → v.0 ≡ 5 → v.2 ≡ number i.0 ++ i.2 → i.2 ≡ counted g.0 ++ g.2 → g.2 ≡ counted n.0 ++ n.2 → n.2 ≡ counted d.0 ++ d.2
    → d.2 ≡ c.0 ∷ c.2 → length s.0 ≡ c.0 → c.2 ≡ flat_map service_text s.0 ++ s.2
    → bytes ≡ fields_text (announcement t.0 i.0 g.0 n.0 d.0 s.0) ++ s.2
announcement_joined bytes t v i g n d c s is1 is2 five is3 is4 is5 is6 is7 all is8 =
    let services = flat_map service_text s.0 ++ s.2 in
    let tail : d.2 ≡ length s.0 ∷ services = is7 ∙ (λ j. sym all j ∷ is8 j) in
    let described : n.2 ≡ counted d.0 ++ (length s.0 ∷ services) = is6 ∙ ap (λ bs. counted d.0 ++ bs) tail in
    let named : g.2 ≡ counted n.0 ++ (counted d.0 ++ (length s.0 ∷ services)) = is5 ∙ ap (λ bs. counted n.0 ++ bs) described in
    let masked : i.2 ≡ counted g.0 ++ (counted n.0 ++ (counted d.0 ++ (length s.0 ∷ services))) = is4 ∙ ap (λ bs. counted g.0 ++ bs) named in
    let whole : bytes ≡ t.0 ∷ 5 ∷ number i.0 ++ (counted g.0 ++ (counted n.0 ++ (counted d.0 ++ (length s.0 ∷ services)))) =
    is1 ∙ ap (λ bs. t.0 ∷ bs) (is2 ∙ (λ j. five j ∷ is3 j) ∙ ap (λ bs. 5 ∷ number i.0 ++ bs) masked) in
    let regroup : t.0 ∷ 5 ∷ number i.0 ++ (counted g.0 ++ (counted n.0 ++ (counted d.0 ++ (length s.0 ∷ services)))) ≡ fields_text (announcement t.0 i.0 g.0 n.0 d.0 s.0) ++ s.2 = simp append_assoc in
    whole ∙ regroup

below : {a b m : ℕ} → a ≡ b → b < m → a < m
below e lt = omega arith

announcement_of_fields : (bytes : List ℕ) (x : Read) (t v i : Number) (g n d : Text) (c : Number) (s : List Service × ℕ × List ℕ) → IsBytes bytes
    → byte_for is_timer fields.Timer 1 bytes ≡ Ok t → byte_for is_version fields.Version t.1 t.2 ≡ Ok v → number_at fields.Incarnation v.1 v.2 ≡ Ok i → groups_at i.1 i.2 ≡ Ok g
    → name_at fields.NodeName g.1 g.2 ≡ Ok n → counted_at fields.Description n.1 n.1 n.2 ≡ Ok d → byte_at fields.ServiceCount d.1 d.1 d.2 ≡ Ok c → services_at c.0 c.1 c.2 ≡ Ok s
    → announced t.0 i.0 g.0 n.0 d.0 s ≡ Ok x → FoundFields kinds.Announcement bytes x
announcement_of_fields bytes x t v i g n d c s all t_read v_read i_read g_read n_read d_read c_read s_read last =
    let t_text = right_byte_found is_timer fields.Timer 1 bytes t all t_read in
    let v_text = right_byte_found is_version fields.Version t.1 t.2 v t_text.0.others v_read in
    let i_text = number_found fields.Incarnation v.1 v.2 i v_text.0.others i_read in
    let g_text = groups_found i.1 i.2 g i_text.others g_read in
    let n_text = name_found fields.NodeName g.1 g.2 n g_text.0.others n_read in
    let d_text = counted_found fields.Description n.1 n.1 n.2 d n_text.0.others d_read in
    let c_text = byte_found fields.ServiceCount d.1 d.1 d.2 c d_text.others c_read in
    let s_text = services_found c.0 c.1 c.2 s c_text.others s_read in
    finish kinds.Announcement bytes (announcement t.0 i.0 g.0 n.0 d.0 s.0) s.1 s.2 x refl
    (announcement_joined bytes t v i g n d c s t_text.0.is v_text.0.is (five v.0 v_text.1) i_text.is g_text.0.is n_text.0.is d_text.is c_text.is s_text.all s_text.is)
    (record {
      names = (n_text.1, s_text.named);
      suits = record {
        timer = timer_some t.0 t_text.1;
        groups = g_text.1;
        description = d_text.short;
        count = below s_text.all c_text.byte;
        services = s_text.short;
      };
    })
    last

announcement_found : (bytes : List ℕ) (x : Read) → IsBytes bytes → announcement_at bytes ≡ Ok x → FoundFields kinds.Announcement bytes x
unfolding announcement_at
announcement_found bytes x all h =
    let t = bind_ok (byte_for is_timer fields.Timer 1 bytes) announced_timer x h in
    let v = bind_ok (byte_for is_version fields.Version t.0.1 t.0.2) (announced_version t.0.0) x t.2 in
    let i = bind_ok (number_at fields.Incarnation v.0.1 v.0.2) (announced_incarnation t.0.0) x v.2 in
    let g = bind_ok (groups_at i.0.1 i.0.2) (announced_groups t.0.0 i.0.0) x i.2 in
    let n = bind_ok (name_at fields.NodeName g.0.1 g.0.2) (announced_node t.0.0 i.0.0 g.0.0) x g.2 in
    let d = bind_ok (counted_at fields.Description n.0.1 n.0.1 n.0.2) (announced_description t.0.0 i.0.0 g.0.0 n.0.0) x n.2 in
    let c = bind_ok (byte_at fields.ServiceCount d.0.1 d.0.1 d.0.2) (announced_count t.0.0 i.0.0 g.0.0 n.0.0 d.0.0) x d.2 in
    let s = bind_ok (services_at c.0.0 c.0.1 c.0.2) (announced t.0.0 i.0.0 g.0.0 n.0.0 d.0.0) x c.2 in
    announcement_of_fields bytes x t.0 v.0 i.0 g.0 n.0 d.0 c.0 s.0 all t.1 v.1 i.1 g.1 n.1 d.1 c.1 s.1 s.2

-- what follows each field of a command
abbrev commanded : ℕ → ℕ → Action → List ℕ → Text → Result Read Bad
commanded i r a n s = Ok (command i r a n s.0, s.1, s.2)

abbrev commanded_node : ℕ → ℕ → Action → Text → Result Read Bad
commanded_node i r a n = name_at fields.Service n.1 n.2 >>= commanded i r a n.0

abbrev commanded_action : ℕ → ℕ → (Action × ℕ × List ℕ) → Result Read Bad
commanded_action i r a = name_at fields.NodeName a.1 a.2 >>= commanded_node i r a.0

abbrev commanded_request : ℕ → Number → Result Read Bad
commanded_request i r = action_at r.1 r.2 >>= commanded_action i r.0

abbrev commanded_incarnation : Number → Result Read Bad
commanded_incarnation i = number_at fields.RequestId i.1 i.2 >>= commanded_request i.0

abbrev commanded_version : Number → Result Read Bad
commanded_version v = number_at fields.Incarnation v.1 v.2 >>= commanded_incarnation

command_joined : (bytes : List ℕ) (v i r : Number) (a : Action × ℕ × List ℕ) (n s : Text)
    → bytes ≡ v.0 ∷ v.2 → v.0 ≡ 5 → v.2 ≡ number i.0 ++ i.2 → i.2 ≡ number r.0 ++ r.2 → r.2 ≡ action_number a.0 ∷ a.2 → a.2 ≡ counted n.0 ++ n.2 → n.2 ≡ counted s.0 ++ s.2
    → bytes ≡ fields_text (command i.0 r.0 a.0 n.0 s.0) ++ s.2
command_joined bytes v i r a n s is1 five is2 is3 is4 is5 is6 =
    let acted : r.2 ≡ action_number a.0 ∷ (counted n.0 ++ (counted s.0 ++ s.2)) = is4 ∙ ap (λ bs. action_number a.0 ∷ bs) (is5 ∙ ap (λ bs. counted n.0 ++ bs) is6) in
    let whole : bytes ≡ 5 ∷ number i.0 ++ (number r.0 ++ (action_number a.0 ∷ (counted n.0 ++ (counted s.0 ++ s.2)))) =
    is1 ∙ (λ j. five j ∷ is2 j) ∙ ap (λ bs. 5 ∷ number i.0 ++ bs) (is3 ∙ ap (λ bs. number r.0 ++ bs) acted) in
    let regroup : 5 ∷ number i.0 ++ (number r.0 ++ (action_number a.0 ∷ (counted n.0 ++ (counted s.0 ++ s.2)))) ≡ fields_text (command i.0 r.0 a.0 n.0 s.0) ++ s.2 = simp append_assoc in
    whole ∙ regroup

command_of_fields : (bytes : List ℕ) (x : Read) (v i r : Number) (a : Action × ℕ × List ℕ) (n s : Text) → IsBytes bytes
    → byte_for is_version fields.Version 1 bytes ≡ Ok v → number_at fields.Incarnation v.1 v.2 ≡ Ok i → number_at fields.RequestId i.1 i.2 ≡ Ok r → action_at r.1 r.2 ≡ Ok a
    → name_at fields.NodeName a.1 a.2 ≡ Ok n → name_at fields.Service n.1 n.2 ≡ Ok s
    → commanded i.0 r.0 a.0 n.0 s ≡ Ok x → FoundFields kinds.Command bytes x
command_of_fields bytes x v i r a n s all v_read i_read r_read a_read n_read s_read last =
    let v_text = right_byte_found is_version fields.Version 1 bytes v all v_read in
    let i_text = number_found fields.Incarnation v.1 v.2 i v_text.0.others i_read in
    let r_text = number_found fields.RequestId i.1 i.2 r i_text.others r_read in
    let a_text = action_found r.1 r.2 a r_text.others a_read in
    let n_text = name_found fields.NodeName a.1 a.2 n a_text.others n_read in
    let s_text = name_found fields.Service n.1 n.2 s n_text.0.others s_read in
    finish kinds.Command bytes (command i.0 r.0 a.0 n.0 s.0) s.1 s.2 x refl
    (command_joined bytes v i r a n s v_text.0.is (five v.0 v_text.1) i_text.is r_text.is a_text.is n_text.0.is s_text.0.is)
    (record { names = (n_text.1, s_text.1); suits = tt })
    last

command_found : (bytes : List ℕ) (x : Read) → IsBytes bytes → command_at bytes ≡ Ok x → FoundFields kinds.Command bytes x
unfolding command_at
command_found bytes x all h =
    let v = bind_ok (byte_for is_version fields.Version 1 bytes) commanded_version x h in
    let i = bind_ok (number_at fields.Incarnation v.0.1 v.0.2) commanded_incarnation x v.2 in
    let r = bind_ok (number_at fields.RequestId i.0.1 i.0.2) (commanded_request i.0.0) x i.2 in
    let a = bind_ok (action_at r.0.1 r.0.2) (commanded_action i.0.0 r.0.0) x r.2 in
    let n = bind_ok (name_at fields.NodeName a.0.1 a.0.2) (commanded_node i.0.0 r.0.0 a.0.0) x a.2 in
    let s = bind_ok (name_at fields.Service n.0.1 n.0.2) (commanded i.0.0 r.0.0 a.0.0 n.0.0) x n.2 in
    command_of_fields bytes x v.0 i.0 r.0 a.0 n.0 s.0 all v.1 i.1 r.1 a.1 n.1 s.1 s.2

-- what follows each field of a status
abbrev told : ℕ → ℕ → Outcome → Text → Result Read Bad
told i r o n = Ok (status i r o n.0, n.1, n.2)

abbrev told_outcome : ℕ → ℕ → (Outcome × ℕ × List ℕ) → Result Read Bad
told_outcome i r o = name_at fields.NodeName o.1 o.2 >>= told i r o.0

abbrev told_request : ℕ → Number → Result Read Bad
told_request i r = outcome_at r.1 r.2 >>= told_outcome i r.0

abbrev told_incarnation : Number → Result Read Bad
told_incarnation i = number_at fields.RequestId i.1 i.2 >>= told_request i.0

abbrev told_version : Number → Result Read Bad
told_version v = number_at fields.Incarnation v.1 v.2 >>= told_incarnation

status_joined : (bytes : List ℕ) (v i r : Number) (o : Outcome × ℕ × List ℕ) (n : Text)
    → bytes ≡ v.0 ∷ v.2 → v.0 ≡ 5 → v.2 ≡ number i.0 ++ i.2 → i.2 ≡ number r.0 ++ r.2 → r.2 ≡ outcome_number o.0 ∷ number (outcome_place o.0) ++ o.2 → o.2 ≡ counted n.0 ++ n.2
    → bytes ≡ fields_text (status i.0 r.0 o.0 n.0) ++ n.2
status_joined bytes v i r o n is1 five is2 is3 is4 is5 =
    let placed : r.2 ≡ outcome_number o.0 ∷ number (outcome_place o.0) ++ (counted n.0 ++ n.2) = is4 ∙ ap (λ bs. outcome_number o.0 ∷ number (outcome_place o.0) ++ bs) is5 in
    is1 ∙ (λ j. five j ∷ is2 j) ∙ ap (λ bs. 5 ∷ number i.0 ++ bs) (is3 ∙ ap (λ bs. number r.0 ++ bs) placed)

status_of_fields : (bytes : List ℕ) (x : Read) (v i r : Number) (o : Outcome × ℕ × List ℕ) (n : Text) → IsBytes bytes
    → byte_for is_version fields.Version 1 bytes ≡ Ok v → number_at fields.Incarnation v.1 v.2 ≡ Ok i → number_at fields.RequestId i.1 i.2 ≡ Ok r → outcome_at r.1 r.2 ≡ Ok o
    → name_at fields.NodeName o.1 o.2 ≡ Ok n
    → told i.0 r.0 o.0 n ≡ Ok x → FoundFields kinds.Status bytes x
status_of_fields bytes x v i r o n all v_read i_read r_read o_read n_read last =
    let v_text = right_byte_found is_version fields.Version 1 bytes v all v_read in
    let i_text = number_found fields.Incarnation v.1 v.2 i v_text.0.others i_read in
    let r_text = number_found fields.RequestId i.1 i.2 r i_text.others r_read in
    let o_text = outcome_found r.1 r.2 o r_text.others o_read in
    let n_text = name_found fields.NodeName o.1 o.2 n o_text.others n_read in
    finish kinds.Status bytes (status i.0 r.0 o.0 n.0) n.1 n.2 x refl
    (status_joined bytes v i r o n v_text.0.is (five v.0 v_text.1) i_text.is r_text.is o_text.is n_text.0.is)
    (record { names = n_text.1; suits = o_text.fits })
    last

status_found : (bytes : List ℕ) (x : Read) → IsBytes bytes → status_at bytes ≡ Ok x → FoundFields kinds.Status bytes x
unfolding status_at
status_found bytes x all h =
    let v = bind_ok (byte_for is_version fields.Version 1 bytes) told_version x h in
    let i = bind_ok (number_at fields.Incarnation v.0.1 v.0.2) told_incarnation x v.2 in
    let r = bind_ok (number_at fields.RequestId i.0.1 i.0.2) (told_request i.0.0) x i.2 in
    let o = bind_ok (outcome_at r.0.1 r.0.2) (told_outcome i.0.0 r.0.0) x r.2 in
    let n = bind_ok (name_at fields.NodeName o.0.1 o.0.2) (told i.0.0 r.0.0 o.0.0) x o.2 in
    status_of_fields bytes x v.0 i.0 r.0 o.0 n.0 all v.1 i.1 r.1 o.1 n.1 n.2

-- what follows each field of a solicit
abbrev asked : ℕ → List ℕ → Text → Result Read Bad
asked i n s = Ok (solicit i n s.0, s.1, s.2)

abbrev asked_node : ℕ → Text → Result Read Bad
asked_node i n = name_at fields.Service n.1 n.2 >>= asked i n.0

abbrev asked_id : Number → Result Read Bad
asked_id i = name_at fields.NodeName i.1 i.2 >>= asked_node i.0

abbrev asked_version : Number → Result Read Bad
asked_version v = number_at fields.SolicitId v.1 v.2 >>= asked_id

solicit_joined : (bytes : List ℕ) (v i : Number) (n s : Text) → bytes ≡ v.0 ∷ v.2 → v.0 ≡ 5 → v.2 ≡ number i.0 ++ i.2 → i.2 ≡ counted n.0 ++ n.2 → n.2 ≡ counted s.0 ++ s.2
    → bytes ≡ fields_text (solicit i.0 n.0 s.0) ++ s.2
solicit_joined bytes v i n s is1 five is2 is3 is4 =
    let whole : bytes ≡ 5 ∷ number i.0 ++ (counted n.0 ++ (counted s.0 ++ s.2)) =
    is1 ∙ (λ j. five j ∷ is2 j) ∙ ap (λ bs. 5 ∷ number i.0 ++ bs) (is3 ∙ ap (λ bs. counted n.0 ++ bs) is4) in
    let regroup : 5 ∷ number i.0 ++ (counted n.0 ++ (counted s.0 ++ s.2)) ≡ fields_text (solicit i.0 n.0 s.0) ++ s.2 = simp append_assoc in
    whole ∙ regroup

solicit_of_fields : (bytes : List ℕ) (x : Read) (v i : Number) (n s : Text) → IsBytes bytes
    → byte_for is_version fields.Version 1 bytes ≡ Ok v → number_at fields.SolicitId v.1 v.2 ≡ Ok i → name_at fields.NodeName i.1 i.2 ≡ Ok n → name_at fields.Service n.1 n.2 ≡ Ok s
    → asked i.0 n.0 s ≡ Ok x → FoundFields kinds.Solicit bytes x
solicit_of_fields bytes x v i n s all v_read i_read n_read s_read last =
    let v_text = right_byte_found is_version fields.Version 1 bytes v all v_read in
    let i_text = number_found fields.SolicitId v.1 v.2 i v_text.0.others i_read in
    let n_text = name_found fields.NodeName i.1 i.2 n i_text.others n_read in
    let s_text = name_found fields.Service n.1 n.2 s n_text.0.others s_read in
    finish kinds.Solicit bytes (solicit i.0 n.0 s.0) s.1 s.2 x refl
    (solicit_joined bytes v i n s v_text.0.is (five v.0 v_text.1) i_text.is n_text.0.is s_text.0.is)
    (record { names = (n_text.1, s_text.1); suits = tt })
    last

solicit_found : (bytes : List ℕ) (x : Read) → IsBytes bytes → solicit_at bytes ≡ Ok x → FoundFields kinds.Solicit bytes x
unfolding solicit_at
solicit_found bytes x all h =
    let v = bind_ok (byte_for is_version fields.Version 1 bytes) asked_version x h in
    let i = bind_ok (number_at fields.SolicitId v.0.1 v.0.2) asked_id x v.2 in
    let n = bind_ok (name_at fields.NodeName i.0.1 i.0.2) (asked_node i.0.0) x i.2 in
    let s = bind_ok (name_at fields.Service n.0.1 n.0.2) (asked i.0.0 n.0.0) x n.2 in
    solicit_of_fields bytes x v.0 i.0 n.0 s.0 all v.1 i.1 n.1 s.1 s.2

-- what follows each field of a response
abbrev answered : ℕ → List ℕ → List ℕ → ℕ → Number → Result Read Bad
answered i n s r t = Ok (response i n s r t.0, t.1, t.2)

abbrev answered_rating : ℕ → List ℕ → List ℕ → Number → Result Read Bad
answered_rating i n s r = byte_for is_timer fields.Timer r.1 r.2 >>= answered i n s r.0

abbrev answered_service : ℕ → List ℕ → Text → Result Read Bad
answered_service i n s = byte_at fields.Rating s.1 s.1 s.2 >>= answered_rating i n s.0

abbrev answered_node : ℕ → Text → Result Read Bad
answered_node i n = name_at fields.Service n.1 n.2 >>= answered_service i n.0

abbrev answered_id : Number → Result Read Bad
answered_id i = name_at fields.NodeName i.1 i.2 >>= answered_node i.0

abbrev answered_version : Number → Result Read Bad
answered_version v = number_at fields.SolicitId v.1 v.2 >>= answered_id

response_joined : (bytes : List ℕ) (v i : Number) (n s : Text) (r t : Number)
    → bytes ≡ v.0 ∷ v.2 → v.0 ≡ 5 → v.2 ≡ number i.0 ++ i.2 → i.2 ≡ counted n.0 ++ n.2 → n.2 ≡ counted s.0 ++ s.2 → s.2 ≡ r.0 ∷ r.2 → r.2 ≡ t.0 ∷ t.2
    → bytes ≡ fields_text (response i.0 n.0 s.0 r.0 t.0) ++ t.2
response_joined bytes v i n s r t is1 five is2 is3 is4 is5 is6 =
    let tail : s.2 ≡ r.0 ∷ t.0 ∷ t.2 = is5 ∙ ap (λ bs. r.0 ∷ bs) is6 in
    let named : i.2 ≡ counted n.0 ++ (counted s.0 ++ (r.0 ∷ t.0 ∷ t.2)) = is3 ∙ ap (λ bs. counted n.0 ++ bs) (is4 ∙ ap (λ bs. counted s.0 ++ bs) tail) in
    let whole : bytes ≡ 5 ∷ number i.0 ++ (counted n.0 ++ (counted s.0 ++ (r.0 ∷ t.0 ∷ t.2))) = is1 ∙ (λ j. five j ∷ is2 j) ∙ ap (λ bs. 5 ∷ number i.0 ++ bs) named in
    let regroup : 5 ∷ number i.0 ++ (counted n.0 ++ (counted s.0 ++ (r.0 ∷ t.0 ∷ t.2))) ≡ fields_text (response i.0 n.0 s.0 r.0 t.0) ++ t.2 = simp append_assoc in
    whole ∙ regroup

response_of_fields : (bytes : List ℕ) (x : Read) (v i : Number) (n s : Text) (r t : Number) → IsBytes bytes
    → byte_for is_version fields.Version 1 bytes ≡ Ok v → number_at fields.SolicitId v.1 v.2 ≡ Ok i → name_at fields.NodeName i.1 i.2 ≡ Ok n → name_at fields.Service n.1 n.2 ≡ Ok s
    → byte_at fields.Rating s.1 s.1 s.2 ≡ Ok r → byte_for is_timer fields.Timer r.1 r.2 ≡ Ok t
    → answered i.0 n.0 s.0 r.0 t ≡ Ok x → FoundFields kinds.Response bytes x
response_of_fields bytes x v i n s r t all v_read i_read n_read s_read r_read t_read last =
    let v_text = right_byte_found is_version fields.Version 1 bytes v all v_read in
    let i_text = number_found fields.SolicitId v.1 v.2 i v_text.0.others i_read in
    let n_text = name_found fields.NodeName i.1 i.2 n i_text.others n_read in
    let s_text = name_found fields.Service n.1 n.2 s n_text.0.others s_read in
    let r_text = byte_found fields.Rating s.1 s.1 s.2 r s_text.0.others r_read in
    let t_text = right_byte_found is_timer fields.Timer r.1 r.2 t r_text.others t_read in
    finish kinds.Response bytes (response i.0 n.0 s.0 r.0 t.0) t.1 t.2 x refl
    (response_joined bytes v i n s r t v_text.0.is (five v.0 v_text.1) i_text.is n_text.0.is s_text.0.is r_text.is t_text.0.is)
    (record { names = (n_text.1, s_text.1); suits = timer_some t.0 t_text.1 })
    last

response_found : (bytes : List ℕ) (x : Read) → IsBytes bytes → response_at bytes ≡ Ok x → FoundFields kinds.Response bytes x
unfolding response_at
response_found bytes x all h =
    let v = bind_ok (byte_for is_version fields.Version 1 bytes) answered_version x h in
    let i = bind_ok (number_at fields.SolicitId v.0.1 v.0.2) answered_id x v.2 in
    let n = bind_ok (name_at fields.NodeName i.0.1 i.0.2) (answered_node i.0.0) x i.2 in
    let s = bind_ok (name_at fields.Service n.0.1 n.0.2) (answered_service i.0.0 n.0.0) x n.2 in
    let r = bind_ok (byte_at fields.Rating s.0.1 s.0.1 s.0.2) (answered_rating i.0.0 n.0.0 s.0.0) x s.2 in
    let t = bind_ok (byte_for is_timer fields.Timer r.0.1 r.0.2) (answered i.0.0 n.0.0 s.0.0 r.0.0) x r.2 in
    response_of_fields bytes x v.0 i.0 n.0 s.0 r.0 t.0 all v.1 i.1 n.1 s.1 r.1 t.1 t.2

-- the fields that are read are those of the notice
pub fields_found : (k : NoticeKind) (bytes : List ℕ) (x : Notice × ℕ × List ℕ) → IsBytes bytes → fields_at k bytes ≡ Ok x → FoundFields k bytes x
fields_found kinds.Announcement bytes x all h = announcement_found bytes x all h
fields_found kinds.Command bytes x all h = command_found bytes x all h
fields_found kinds.Status bytes x all h = status_found bytes x all h
fields_found kinds.Solicit bytes x all h = solicit_found bytes x all h
fields_found kinds.Response bytes x all h = response_found bytes x all h
