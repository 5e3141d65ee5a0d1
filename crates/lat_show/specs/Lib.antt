pub mod choice
pub mod ParamsPrinted
pub mod SlotPrinted
pub mod MessagePrinted
pub mod NoticePrinted
pub mod BadPrinted
pub mod PayloadPrinted
pub mod ShowOf
