-- The fields of the layouts, in order.
use Rattle.std.specs.Prelude.{ℕ, List, [], ◌∷◌}
use Rattle.lat_base.specs.declared.field.Field.{Field}
use Rattle.lat_base.specs.declared.field.Field.TheVariants as fields

abbrev pub field_place : Field → ℕ
field_place fields.Size = 0
field_place fields.Kind = 1
field_place fields.SlotCount = 2
field_place fields.DestinationCircuit = 3
field_place fields.SourceCircuit = 4
field_place fields.Sequence = 5
field_place fields.Acknowledgement = 6
field_place fields.SlotType = 7
field_place fields.DestinationSlot = 8
field_place fields.SourceSlot = 9
field_place fields.ByteCount = 10
field_place fields.ServiceClass = 11
field_place fields.AttentionSize = 12
field_place fields.DataSize = 13
field_place fields.Service = 14
field_place fields.Subject = 15
field_place fields.Parameters = 16
field_place fields.SlotEnd = 17
field_place fields.SlotPad = 18
field_place fields.FrameSize = 19
field_place fields.Version = 20
field_place fields.Eco = 21
field_place fields.Sessions = 22
field_place fields.Extra = 23
field_place fields.Timer = 24
field_place fields.KeepAlive = 25
field_place fields.Facility = 26
field_place fields.ProductType = 27
field_place fields.ProductVersion = 28
field_place fields.SlaveName = 29
field_place fields.MasterName = 30
field_place fields.Location = 31
field_place fields.Reason = 32
field_place fields.Text = 33
field_place fields.Incarnation = 34
field_place fields.RequestId = 35
field_place fields.Action = 36
field_place fields.Outcome = 37
field_place fields.Place = 38
field_place fields.NodeName = 39
field_place fields.Groups = 40
field_place fields.Description = 41
field_place fields.ServiceCount = 42
field_place fields.Rating = 43
field_place fields.ServiceDescription = 44
field_place fields.SolicitId = 45
field_place fields.Trailing = 46

abbrev pub all_fields : List Field
all_fields =
    fields.Size ∷ fields.Kind ∷ fields.SlotCount ∷ fields.DestinationCircuit ∷ fields.SourceCircuit ∷ fields.Sequence ∷ fields.Acknowledgement ∷ fields.SlotType ∷ fields.DestinationSlot ∷ fields.SourceSlot ∷ fields.ByteCount ∷ fields.ServiceClass ∷ fields.AttentionSize ∷ fields.DataSize ∷ fields.Service ∷ fields.Subject ∷ fields.Parameters ∷ fields.SlotEnd ∷ fields.SlotPad ∷ fields.FrameSize ∷ fields.Version ∷ fields.Eco ∷ fields.Sessions ∷ fields.Extra ∷ fields.Timer ∷ fields.KeepAlive ∷ fields.Facility ∷ fields.ProductType ∷ fields.ProductVersion ∷ fields.SlaveName ∷ fields.MasterName ∷ fields.Location ∷ fields.Reason ∷ fields.Text ∷ fields.Incarnation ∷ fields.RequestId ∷ fields.Action ∷ fields.Outcome ∷ fields.Place ∷ fields.NodeName ∷ fields.Groups ∷ fields.Description ∷ fields.ServiceCount ∷ fields.Rating ∷ fields.ServiceDescription ∷ fields.SolicitId ∷ fields.Trailing ∷ []
