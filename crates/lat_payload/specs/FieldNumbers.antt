-- The numbers of the fields of the layouts, and the fields of these numbers.
use Rattle.std.specs.Prelude.{ℕ, List, [], ◌∷◌, get_or}
use Rattle.lat_base.specs.declared.field.Field.{Field}
use Rattle.lat_base.specs.declared.field.Field.TheVariants as fields

-- The number of a field is its place, counted from 0, in the list of all fields: that of docs/FORMATS.md under "Fields
-- and their words", which is also the order of the enum
abbrev pub field_number : Field → ℕ
field_number fields.Size = 0
field_number fields.Kind = 1
field_number fields.SlotCount = 2
field_number fields.DestinationCircuit = 3
field_number fields.SourceCircuit = 4
field_number fields.Sequence = 5
field_number fields.Acknowledgement = 6
field_number fields.SlotType = 7
field_number fields.DestinationSlot = 8
field_number fields.SourceSlot = 9
field_number fields.ByteCount = 10
field_number fields.ServiceClass = 11
field_number fields.AttentionSize = 12
field_number fields.DataSize = 13
field_number fields.Service = 14
field_number fields.Subject = 15
field_number fields.Parameters = 16
field_number fields.SlotEnd = 17
field_number fields.SlotPad = 18
field_number fields.FrameSize = 19
field_number fields.Version = 20
field_number fields.Eco = 21
field_number fields.Sessions = 22
field_number fields.Extra = 23
field_number fields.Timer = 24
field_number fields.KeepAlive = 25
field_number fields.Facility = 26
field_number fields.ProductType = 27
field_number fields.ProductVersion = 28
field_number fields.SlaveName = 29
field_number fields.MasterName = 30
field_number fields.Location = 31
field_number fields.Reason = 32
field_number fields.Text = 33
field_number fields.Incarnation = 34
field_number fields.RequestId = 35
field_number fields.Action = 36
field_number fields.Outcome = 37
field_number fields.Place = 38
field_number fields.NodeName = 39
field_number fields.Groups = 40
field_number fields.Description = 41
field_number fields.ServiceCount = 42
field_number fields.Rating = 43
field_number fields.ServiceDescription = 44
field_number fields.SolicitId = 45
field_number fields.Trailing = 46

-- all fields, each at the place of its number
abbrev pub all_fields : List Field
all_fields =
    fields.Size ∷ fields.Kind ∷ fields.SlotCount ∷ fields.DestinationCircuit ∷ fields.SourceCircuit ∷
    fields.Sequence ∷ fields.Acknowledgement ∷ fields.SlotType ∷ fields.DestinationSlot ∷ fields.SourceSlot ∷
    fields.ByteCount ∷ fields.ServiceClass ∷ fields.AttentionSize ∷ fields.DataSize ∷ fields.Service ∷
    fields.Subject ∷ fields.Parameters ∷ fields.SlotEnd ∷ fields.SlotPad ∷ fields.FrameSize ∷
    fields.Version ∷ fields.Eco ∷ fields.Sessions ∷ fields.Extra ∷ fields.Timer ∷ fields.KeepAlive ∷
    fields.Facility ∷ fields.ProductType ∷ fields.ProductVersion ∷ fields.SlaveName ∷ fields.MasterName ∷
    fields.Location ∷ fields.Reason ∷ fields.Text ∷ fields.Incarnation ∷ fields.RequestId ∷ fields.Action ∷
    fields.Outcome ∷ fields.Place ∷ fields.NodeName ∷ fields.Groups ∷ fields.Description ∷
    fields.ServiceCount ∷ fields.Rating ∷ fields.ServiceDescription ∷ fields.SolicitId ∷ fields.Trailing ∷ []

abbrev pub field_of : ℕ → Field
field_of n = get_or all_fields n fields.Kind
