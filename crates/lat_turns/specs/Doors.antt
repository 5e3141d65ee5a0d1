-- What a line is for, and what its mind is shown.
use Rattle.std.specs.Prelude.{ℕ, ◌==◌, List, Bool, false, if◌then◌else◌, Option, Some, None, option_map, is_some}
use Rattle.std.specs.List.{find}
use Rattle.std.specs.Cmp.Lexicographic.{pointwise}
use Rattle.lat_base.specs.declared.look.LineLook.{LineLook}
use Rattle.lat_base.specs.declared.look.Correspondent.{Correspondent}
use Rattle.lat_base.specs.declared.look.WaiterLook.{WaiterLook}
use Rattle.lat_base.specs.Names.{folded}
use Rattle.lat_mind.specs.declared.fact.Move.{Move}
use Rattle.lat_mind.specs.declared.fact.Move.TheVariants as moves
use Rattle.lat_mind.specs.declared.look.Look.{Look}
use Rattle.lat_mind.specs.declared.look.Owner.{Owner}
use Rattle.lat_mind.specs.declared.look.Owner.TheVariants as owners
use Rattle.lat_turns.specs.declared.door.Device.{Device}
use Rattle.lat_turns.specs.declared.kept.Sessions.{Sessions}

-- the service that a calling line connects to, the devices with their services, the service that an offering line offers, and how
-- many sessions its caller may have
pub record DoorView : Type 0 where
  pub service : Option (List ℕ)
  pub devices : List Device
  pub offers : Option (List ℕ)
  pub sessions : Sessions

-- it is for this service, without regard to case
abbrev pub serves : List ℕ → Device → Bool
serves service d = pointwise ◌==◌ (folded service) (folded d.service)

-- the first device for a service
abbrev pub device_of : List Device → List ℕ → Option Device
device_of devices service = find (serves service) devices

abbrev pub port_for : List Device → List ℕ → Option ℕ
port_for devices service = option_map (λ (d : Device). d.port) (device_of devices service)

-- the port for a service, where there is one
abbrev pub port_if : List Device → Option (List ℕ) → Option ℕ
port_if devices None = None
port_if devices (Some service) = port_for devices service

abbrev pub service_of : Option Correspondent → Option (List ℕ)
service_of None = None
service_of (Some who) = Some who.service

-- a session for a service with a device is the device's, and each other one is for whoever is at the line's port
abbrev pub owner_of : List Device → Option Correspondent → Owner
owner_of devices who = if is_some (port_if devices (service_of who)) then owners.Device else owners.Port

-- which port is dialled: for the newest session, or for the service that the line offers
abbrev pub port_at : DoorView → Option Correspondent → Move → Option ℕ
port_at door who moves.Dial = port_if door.devices (service_of who)
port_at door who moves.Attach = port_if door.devices door.offers
port_at door who _ = None

-- somebody waits for the service that the line offers
abbrev pub is_wanted : (List ℕ → ℕ → Option WaiterLook) → Option (List ℕ) → Bool
is_wanted waiter_of None = false
is_wanted waiter_of (Some service) = is_some (waiter_of service 0)

-- how a line looks in a state
abbrev pub look_in : {S : Type 0} → (S → ℕ → LineLook) → (S → ℕ → Option Correspondent) → (S → List ℕ → ℕ → Option WaiterLook) → (S → ℕ)
    → DoorView → S → Bool → ℕ → Look
look_in look_of correspondent_of waiter_of moment_of door s stopping line = record {
  line = look_of s line;
  owner = owner_of door.devices (correspondent_of s line);
  wanted = is_wanted (waiter_of s) door.offers;
  stopping = stopping;
  moment = moment_of s;
}
