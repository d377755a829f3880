pub mod FewArguments
pub mod FunctionLists
pub mod NameLists
pub mod SignatureLaws
